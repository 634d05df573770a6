use Rattle.std.proofs.Common.{◌≡◌, ◌<◌, ◌≤◌, ℕ, Bool, true, Some}
use Rattle.std.specs.Prelude.{slice_get}
use Rattle.anb_certify.proofs.classes.all_set.Given as goal

abbrev pub invariant-loop-i : goal.invariant-loop-i
invariant-loop-i l = (k : ℕ) (b : Bool) → l.from ≤ k → k < l.i → slice_get l.flags k ≡ Some b → b ≡ true
