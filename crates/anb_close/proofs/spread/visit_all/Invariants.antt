use Rattle.std.proofs.Common.{◌≡◌, ◌+◌, ◌++◌, ℕ, List, Option, length}
use Rattle.anb_term.specs.Tree.{Tree}
use Rattle.anb_close.specs.declared.index.Standing.{Standing}
use Rattle.anb_close.specs.Spreading.{HavePlaces, IsSpreading, IsLeft, nowheres}
use Rattle.anb_close.proofs.spread.visit_all.Given as goal

abbrev pub invariant-loop-n : goal.invariant-loop-n
invariant-loop-n l = record {
  long : length l.standings.items ≡ length l.pool;
  places : (rs : List (Option Tree)) → HavePlaces rs l.pool l.fn.standings.items → HavePlaces rs l.pool l.standings.items;
  fewer : nowheres l.standings.items + length l.work.items ≡ nowheres l.fn.standings.items + length l.fn.work.items;
  later : List ℕ;
  is : l.told.items ≡ l.fn.told.items ++ later;
  step : (rs : List (Option Tree)) (old : List Standing) (before : List ℕ) → IsSpreading rs l.pool old l.fn.standings.items before (IsLeft l.fn.work.items l.x l.numbers 0)
      → IsSpreading rs l.pool old l.standings.items (before ++ later) (IsLeft l.work.items l.x l.numbers l.n-index);
}
