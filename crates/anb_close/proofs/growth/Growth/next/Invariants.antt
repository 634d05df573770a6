use Rattle.std.proofs.Common.{◌≡◌, ℕ, ◌<◌, ◌≤◌, Some}
use Rattle.std.specs.Prelude.{slice_get}
use Rattle.anb_close.specs.Entries.{NoKeys}
use Rattle.anb_close.proofs.growth.Growth.next.Given as goal

abbrev pub invariant-loop-k : goal.invariant-loop-k
invariant-loop-k l = (k i : ℕ) → l.from ≤ k → k < l.k → slice_get l.touched k ≡ Some i → NoKeys l.self.entries.items l.self.firsts.items i
