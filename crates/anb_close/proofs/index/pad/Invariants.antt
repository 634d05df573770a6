use Rattle.std.proofs.Common.{◌≡◌, ◌++◌, ◌-◌, length}
use Rattle.std.proofs.Math.ListN.{replicate}
use Rattle.anb_close.specs.declared.index.Standing.TheVariants.{Nowhere}
use Rattle.anb_close.proofs.index.pad.Given as goal

abbrev pub invariant-loop-k : goal.invariant-loop-k
invariant-loop-k l = l.standings.items ≡ l.initial.standings.items ++ replicate (l.k - length l.initial.standings.items) Nowhere
