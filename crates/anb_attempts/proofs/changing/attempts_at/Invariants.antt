use Rattle.std.proofs.Common.{take}
use Rattle.std.specs.List.{AllZip}
use Rattle.anb_verdict.specs.Places.{place_value}
use Rattle.anb_attempts.specs.Attempts.{IsAttempt}
use Rattle.anb_attempts.proofs.changing.attempts_at.Given as goal

abbrev pub invariant-loop-change : goal.invariant-loop-change
invariant-loop-change l = AllZip (IsAttempt l.p l.role l.scene (place_value l.place) l.reading) (take l.change-index l.changes) l.attempts.items
