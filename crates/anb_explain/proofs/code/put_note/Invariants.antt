use Rattle.std.proofs.Common.{◌≡◌, ◌++◌, ◌∷◌, drop}
use Rattle.std.specs.List.{flat_map}
use Rattle.anb_term.specs.View.{tree_of}
use Rattle.anb_protocol.specs.Texts.{term_text}
use Rattle.anb_explain.proofs.code.put_note.Given as goal

abbrev pub invariant-loop-term : goal.invariant-loop-term
invariant-loop-term l =
    l.out.items ++ flat_map (λ t. 32 ∷ term_text l.protocol (tree_of t)) (drop l.term-index l.terms) ≡ l.initial.out.items ++ flat_map (λ t. 32 ∷ term_text l.protocol (tree_of t)) l.terms
