use Rattle.std.proofs.Common.{◌≡◌, drop, map}
use Rattle.anb_syntax.specs.Views.{know_of, tok_of}
use Rattle.anb_mistakes.specs.Spots.{term_spot}
use Rattle.anb_mistakes.proofs.limits.term_spot.Given as goal

abbrev pub invariant-loop-i : goal.invariant-loop-i
invariant-loop-i l =
    term_spot (map know_of (drop l.i l.knows)) l.i l.left (map (tok_of l.text) l.tokens)
    ≡ term_spot (map know_of l.knows) 0 l.number (map (tok_of l.text) l.tokens)
