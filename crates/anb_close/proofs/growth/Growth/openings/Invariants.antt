use Rattle.std.proofs.Common.{◌≡◌, ◌++◌, drop}
use Rattle.anb_close.specs.Entries.{openings_from}
use Rattle.anb_close.proofs.growth.Growth.openings.Given as goal

abbrev pub invariant-loop-f : goal.invariant-loop-f
invariant-loop-f l = l.all.items ++ openings_from l.f (drop l.f l.self.entries.items) ≡ openings_from l.from (drop l.from l.self.entries.items)
