use Rattle.std.proofs.Common.{◌∙◌}
use Rattle.anb_lemmas.proofs.Results.{if_ok_map}
use Rattle.anb_choice.specs.Views.{branched_of}
use Rattle.anb_check_commands.proofs.Choosing.{blind_text}
use Rattle.anb_check_commands.proofs.choices.blind_said.Goals as goal

pub returns : goal.returns
returns c =
    if_ok_map c.said_at.result _ _
    (λ said is. blind_text c.args.name.now c.args.text.now c.args.why (branched_of c.args.b.now) c.args.role.now c.args.arm c.in_ok-first.first c.action_at.result c.deref.result.now said c.in_ok-first.ensures c.action_at.ensures
    (c.deref.ensures.value ∙ c.in_ok-line.ensures) is) c.said_at.ensures
