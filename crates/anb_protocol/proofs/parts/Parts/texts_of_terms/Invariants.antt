use Rattle.std.proofs.Common.{◌≡◌, ◌++◌, map, drop}
use Rattle.std.specs.List.{AllByRecursion}
use Rattle.anb_term.specs.View.{tree_of}
use Rattle.anb_protocol.specs.Texts.{term_text, IsTermOf}
use Rattle.anb_protocol.specs.Views.{value_of}
use Rattle.anb_protocol.proofs.parts.Parts.texts_of_terms.Given as goal

abbrev pub invariant-loop-term : goal.invariant-loop-term
invariant-loop-term l = record {
  ours : AllByRecursion (IsTermOf (value_of l.self)) (map tree_of (drop l.term-index l.terms));
  texts : l.texts.items ++ map (term_text (value_of l.self)) (map tree_of (drop l.term-index l.terms)) ≡ map (term_text (value_of l.self)) (map tree_of l.terms);
}
