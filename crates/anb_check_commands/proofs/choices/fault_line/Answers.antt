use Rattle.std.proofs.Common.{ap, sym, ◌∙◌}
use Rattle.anb_lemmas.proofs.Results.{if_ok_map}
use Rattle.anb_check_commands.specs.ChoiceLines.{fault_line}
use Rattle.anb_check_commands.proofs.Choosing.{nothing_said}
use Rattle.anb_check_commands.proofs.choices.fault_line.Goals as goal

pub returns-in-Roles : goal.returns-in-Roles
returns-in-Roles c = if_ok_map c.roles_line.result _ _ (λ v is. is ∙ sym (ap (fault_line c.args.chooser.now) c.in-Roles.is)) c.roles_line.ensures

pub returns-in-Chooser : goal.returns-in-Chooser
returns-in-Chooser c = if_ok_map c.chooser_line.result _ _ (λ v is. is ∙ sym (ap (fault_line c.args.chooser.now) c.in-Chooser.is)) c.chooser_line.ensures

pub returns-in_default : goal.returns-in_default
returns-in_default c = c.new.ensures.items ∙ nothing_said c.args.chooser.now c.args.no.now c.in_default.not-Roles c.in_default.not-Chooser
