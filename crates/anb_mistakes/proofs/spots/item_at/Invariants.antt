use Rattle.std.proofs.Common.{◌≡◌, ◌≤◌, List, ℕ, drop, map}
use Rattle.anb_syntax.specs.Views.{tok_of}
use Rattle.anb_mistakes.specs.Spots.{item_from}
use Rattle.anb_mistakes.proofs.spots.item_at.Given as goal

abbrev pub invariant-loop-i : goal.invariant-loop-i
invariant-loop-i l = record {
  within : l.first ≤ l.i;
  so_far : (text : List ℕ) → item_from l.at (map (tok_of text) (drop l.first l.tokens)) (map (tok_of text) (drop l.i l.tokens)) ≡ item_from l.at (map (tok_of text) l.tokens) (map (tok_of text) l.tokens);
}
