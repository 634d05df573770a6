use Rattle.std.proofs.Common.{refl, inl, inr}
use Rattle.anb_command.proofs.Failing.{IsFailure-map}
use Rattle.anb_chart_commands.proofs.telling.told_by_narration.Goals as goal

pub returns-in-Ok-clause-given : goal.returns-in-Ok-clause-given
returns-in-Ok-clause-given c = inr (c.in-Ok.protocol, c.in-Ok.ensures.given, refl)

pub returns-in-Err-clause-refused : goal.returns-in-Err-clause-refused
returns-in-Err-clause-refused c = IsFailure-map c.in-Err.status _ _ _ _ (λ file never. never) (λ is. inl (c.in-Err.status, is, refl)) c.in-Err.ensures.refused
