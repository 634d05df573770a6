use Rattle.std.proofs.Common.{◌≡◌, ◌<◌, ℕ, length, Some, false}
use Rattle.std.specs.Prelude.{slice_get}
use Rattle.anb_basis.proofs.Again.{IsMarked}
use Rattle.anb_basis.proofs.adding.mark_again.Given as goal

abbrev pub invariant-loop-n : goal.invariant-loop-n
invariant-loop-n l = record {
  long : length l.marks.items ≡ l.count;
  off : (i : ℕ) → i < l.n → slice_get l.marks.items i ≡ Some false;
}

abbrev pub invariant-loop-check : goal.invariant-loop-check
invariant-loop-check l = record {
  long : length l.marks.items ≡ l.count;
  marked : IsMarked l.given l.marks.items l.check-index;
}
