use Rattle.std.proofs.Common.{◌≡◌, ◌+◌, ◌++◌, [], ℕ, List, Option, length}
use Rattle.anb_term.specs.Tree.{Tree}
use Rattle.anb_close.specs.declared.index.Standing.{Standing}
use Rattle.anb_close.specs.Listed.{IsListed}
use Rattle.anb_close.specs.Spreading.{HavePlaces, IsSpreading, nowheres}
use Rattle.anb_close.proofs.spread.spread.Given as goal

abbrev pub invariant-loop-x : goal.invariant-loop-x
invariant-loop-x l = record {
  long : length l.standings.items ≡ length l.pool;
  places : (rs : List (Option Tree)) → HavePlaces rs l.pool l.fn.standings.items → HavePlaces rs l.pool l.standings.items;
  later : List ℕ;
  is : l.told.items ≡ l.fn.told.items ++ later;
  step : (rs : List (Option Tree)) (old : List Standing) → IsSpreading rs l.pool old l.fn.standings.items [] (λ w n. w ≡ l.from) → IsSpreading rs l.pool old l.standings.items later (λ w n. IsListed l.work.items w);
}

abbrev pub decreases-loop-x : goal.decreases-loop-x
decreases-loop-x l = nowheres l.standings.items + length l.work.items
