use Rattle.std.proofs.Common.{take}
use Rattle.std.specs.List.{AllZip}
use Rattle.anb_verdict.specs.Places.{place_value}
use Rattle.anb_attempts.specs.Attempts.{IsOpeningAttempt}
use Rattle.anb_attempts.proofs.opening.attempts_in.Given as goal

abbrev pub invariant-loop-way : goal.invariant-loop-way
invariant-loop-way l = AllZip (IsOpeningAttempt l.p l.role l.scene (place_value l.place)) (take l.way-index l.ways) l.attempts.items
