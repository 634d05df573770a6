use Rattle.std.proofs.Common.{◌≡◌, drop, map}
use Rattle.anb_syntax.specs.Views.{tok_of}
use Rattle.anb_mistakes.specs.Spots.{nth}
use Rattle.anb_mistakes.proofs.spots.nth.Given as goal

abbrev pub invariant-loop-i : goal.invariant-loop-i
invariant-loop-i l = nth l.name l.behind l.left (map (tok_of l.text) (drop l.i l.tokens)) ≡ nth l.name l.behind l.k (map (tok_of l.text) l.tokens)
