use Rattle.std.proofs.Common.{refl, inl, inr}
use Rattle.anb_command.proofs.Failing.{IsFailure-map}
use Rattle.anb_command.proofs.playable.playable_of.Goals as goal

pub returns-in-Ok-code_of-clause-given : goal.returns-in-Ok-code_of-clause-given
returns-in-Ok-code_of-clause-given c = inr (c.in-Ok.role, c.in-Ok.ensures.given, inr (tt, c.in-Ok-code_of.ensures.given, refl))

pub returns-in-Err-code_of-clause-refused : goal.returns-in-Err-code_of-clause-refused
returns-in-Err-code_of-clause-refused c =
    IsFailure-map c.in-Err-code_of.status _ _ _ _ (λ file never. never) (λ is. inr (c.in-Ok.role, c.in-Ok.ensures.given, inl (c.in-Err-code_of.status, is, refl))) c.in-Err-code_of.ensures.refused
