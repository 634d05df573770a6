use Rattle.std.proofs.Common.{inr}
use Rattle.anb_lemmas.proofs.Results.{if_ok_map}
use Rattle.anb_check_commands.proofs.choices.verdict_on_unread.Goals as goal

pub returns-in-Ok-clause-is : goal.returns-in-Ok-clause-is
returns-in-Ok-clause-is c = if_ok_map c.verdict_on_choice.result _ _ (λ v on. inr (c.args.why, c.requires.refused, on)) c.verdict_on_choice.ensures.is

pub returns-in-Err-clause-is : goal.returns-in-Err-clause-is
returns-in-Err-clause-is c = if_ok_map c.verdict_on_untold.result _ _ (λ v on. inr (c.args.why, c.requires.refused, on)) c.verdict_on_untold.ensures.is
