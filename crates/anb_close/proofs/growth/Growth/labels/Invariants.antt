use Rattle.std.proofs.Common.{◌≤◌, length, drop}
use Rattle.std.specs.List.{AllByRecursion}
use Rattle.anb_close.specs.Entries.{IsPart}
use Rattle.anb_close.proofs.growth.Growth.labels.Given as goal

abbrev pub invariant-loop-at : goal.invariant-loop-at
invariant-loop-at l = record { within : l.at ≤ length l.self.entries.items; parts : AllByRecursion IsPart (drop l.at l.self.entries.items) }

abbrev pub decreases-loop-at : goal.decreases-loop-at
decreases-loop-at l = l.at
