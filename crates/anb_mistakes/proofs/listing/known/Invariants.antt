use Rattle.std.proofs.Common.{◌≡◌, ◌≤◌, drop, map, true}
use Rattle.anb_syntax.specs.Views.{tok_of}
use Rattle.anb_mistakes.specs.Spots.{known}
use Rattle.anb_mistakes.proofs.listing.known.Given as goal

abbrev pub invariant-loop-i : goal.invariant-loop-i
invariant-loop-i l = record {
  few : l.depth ≤ l.i;
  so_far : known l.spelled l.left l.begins l.depth (map (tok_of l.text) (drop l.i l.tokens)) ≡ known l.spelled l.k true 0 (map (tok_of l.text) l.tokens);
}
