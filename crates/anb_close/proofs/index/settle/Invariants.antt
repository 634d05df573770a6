use Rattle.std.proofs.Common.{◌≡◌, List, Option, length}
use Rattle.anb_term.specs.Tree.{Tree}
use Rattle.anb_close.specs.Standings.{IsSettling}
use Rattle.anb_close.proofs.index.settle.Given as goal

abbrev pub invariant-loop-n : goal.invariant-loop-n
invariant-loop-n l = record {
  long : length l.standings.items ≡ length l.pool;
  step : (rs : List (Option Tree)) → IsSettling rs l.pool l.initial.standings.items l.from → IsSettling rs l.pool l.standings.items l.n;
}
