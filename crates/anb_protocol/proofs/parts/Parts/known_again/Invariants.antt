use Rattle.std.proofs.Common.{◌≡◌, [], map, take, drop}
use Rattle.anb_term.specs.View.{tree_of}
use Rattle.anb_protocol.specs.Texts.{term_text}
use Rattle.anb_protocol.specs.Checks.{again_at}
use Rattle.anb_protocol.specs.Views.{value_of}
use Rattle.anb_protocol.proofs.parts.Parts.known_again.Given as goal

abbrev pub invariant-loop-i : goal.invariant-loop-i
invariant-loop-i l = record {
  seen : l.seen ≡ take l.i (map (term_text (value_of l.self)) (map tree_of l.terms));
  place : again_at (take l.i (map tree_of l.terms)) (drop l.i (map tree_of l.terms)) ≡ again_at [] (map tree_of l.terms);
}
