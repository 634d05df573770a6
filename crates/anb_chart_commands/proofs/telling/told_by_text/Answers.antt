use Rattle.std.proofs.Common.{inl, inr}
use Rattle.anb_lemmas.proofs.Results.{if_ok_map}
use Rattle.anb_syntax.specs.Views.{narration_of}
use Rattle.anb_command.proofs.Failing.{IsFailure-map}
use Rattle.anb_command.proofs.Preparing.{if_err_map}
use Rattle.anb_chart_commands.proofs.telling.told_by_text.Goals as goal

pub returns-in-Ok-clause-given : goal.returns-in-Ok-clause-given
returns-in-Ok-clause-given c =
    if_ok_map c.told_by_narration.result _ _ (λ t is. inl (narration_of c.in-Ok.narration, c.in-Ok.ensures.found, is)) c.told_by_narration.ensures.given

pub returns-in-Ok-clause-refused : goal.returns-in-Ok-clause-refused
returns-in-Ok-clause-refused c =
    if_err_map c.told_by_narration.result _ _ (λ s fails. IsFailure-map s _ _ _ _ (λ file never. never)
    (λ is. inl (narration_of c.in-Ok.narration, c.in-Ok.ensures.found, is)) fails) c.told_by_narration.ensures.refused
