use Rattle.std.proofs.Common.{refl, inl, inr}
use Rattle.anb_command.proofs.Failing.{IsFailure-map}
use Rattle.anb_park_commands.proofs.Roles.{runs_role}
use Rattle.anb_park_commands.proofs.owning.owner_of.Goals as goal

pub returns-in-Ok-playable_of-clause-given : goal.returns-in-Ok-playable_of-clause-given
returns-in-Ok-playable_of-clause-given c = inr (c.in-Ok-protocol_of_narration.protocol, c.in-Ok-protocol_of_narration.ensures.given, c.in-Ok-playable_of.ensures.given)

pub returns-in-Ok-playable_of-clause-runs : goal.returns-in-Ok-playable_of-clause-runs
returns-in-Ok-playable_of-clause-runs c =
    let role = c.in-Ok-playable_of.playable in
    runs_role role.protocol role.role role.code (c.protocols_hold.ensures role.protocol c.name.ensures.protocol) c.fitting_codes_play.ensures c.in-Ok-playable_of.ensures.fits

pub returns-in-Err-protocol_of_narration-clause-refused : goal.returns-in-Err-protocol_of_narration-clause-refused
returns-in-Err-protocol_of_narration-clause-refused c =
    IsFailure-map c.in-Err-protocol_of_narration.status _ _ _ _ (λ file never. never) (λ is. inl (c.in-Err-protocol_of_narration.status, is, refl)) c.in-Err-protocol_of_narration.ensures.refused

pub returns-in-Err-playable_of-clause-refused : goal.returns-in-Err-playable_of-clause-refused
returns-in-Err-playable_of-clause-refused c =
    IsFailure-map c.in-Err-playable_of.status _ _ _ _ (λ file never. never)
    (λ is. inr (c.in-Ok-protocol_of_narration.protocol, c.in-Ok-protocol_of_narration.ensures.given, is)) c.in-Err-playable_of.ensures.refused
