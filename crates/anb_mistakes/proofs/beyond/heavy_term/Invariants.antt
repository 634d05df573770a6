use Rattle.std.proofs.Common.{◌≡◌, ◌+◌, ◌≤◌, drop, map}
use Rattle.anb_syntax.specs.Views.{tree_of}
use Rattle.anb_protocol.specs.Views.{pointed}
use Rattle.anb_mistakes.specs.Beyond.{heavy_term}
use Rattle.anb_mistakes.proofs.beyond.heavy_term.Given as goal

abbrev pub invariant-loop-i : goal.invariant-loop-i
invariant-loop-i l = record {
  few : l.left ≤ l.most;
  so_far : l.i + heavy_term l.left (map tree_of (pointed (drop l.i l.terms))) ≡ heavy_term l.most (map tree_of (pointed l.terms));
}
