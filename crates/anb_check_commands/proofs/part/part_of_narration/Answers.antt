use Rattle.std.proofs.Common.{refl, inl, inr}
use Rattle.anb_lemmas.proofs.Results.{if_ok_map}
use Rattle.anb_syntax.specs.Views.{narration_of}
use Rattle.anb_command.proofs.Failing.{IsFailure-map}
use Rattle.anb_command.proofs.Preparing.{if_err_map}
use Rattle.anb_check_commands.proofs.Parts.{part_before, protocol_before}
use Rattle.anb_check_commands.proofs.part.part_of_narration.Goals as goal

pub returns-in-Ok-clause-given : goal.returns-in-Ok-clause-given
returns-in-Ok-clause-given c = if_ok_map c.playable_of.result _ _ (λ p is. inr (c.in-Ok.protocol, c.in-Ok.ensures.given, is)) c.playable_of.ensures.given

pub returns-in-Ok-clause-refused : goal.returns-in-Ok-clause-refused
returns-in-Ok-clause-refused c =
    if_err_map c.playable_of.result _ _ (λ s fails. IsFailure-map s _ _ _ _ (λ file never. never) (λ is. inr (c.in-Ok.protocol, c.in-Ok.ensures.given, is)) fails) c.playable_of.ensures.refused

pub returns-in-Ok-clause-before : goal.returns-in-Ok-clause-before
returns-in-Ok-clause-before c = if_err_map c.playable_of.result _ _ (λ s fails. part_before c.in-Ok.protocol c.args.name.now s fails) c.playable_of.ensures.refused

pub returns-in-Err-clause-refused : goal.returns-in-Err-clause-refused
returns-in-Err-clause-refused c = IsFailure-map c.in-Err.status _ _ _ _ (λ file never. never) (λ is. inl (c.in-Err.status, is, refl)) c.in-Err.ensures.refused

pub returns-in-Err-clause-before : goal.returns-in-Err-clause-before
returns-in-Err-clause-before c = protocol_before (narration_of c.args.narration.now) c.in-Err.status c.in-Err.ensures.refused
