-- One more term that somebody has.
use Rattle.std.proofs.Common.{◌≡◌, List, [], ◌∷◌, ◌++◌, ap, ◌∙◌}
use Rattle.anb_term.specs.declared.term.Term.{Term}
use Rattle.anb_term.specs.View.{tree_of}
use Rattle.anb_close.specs.declared.entry.Entry.{Entry}
use Rattle.anb_close.specs.Entries.{labels_of, HasAdded}
use Rattle.anb_close.proofs.Growing.{labels_append, no_labels}

pub one_label : (es es' : List Entry) (t : Term) → HasAdded es t es' → labels_of es' ≡ labels_of es ++ tree_of t ∷ []
one_label es es' t a = ap labels_of a.is ∙ labels_append es _ ∙ ap (λ l. labels_of es ++ tree_of t ∷ l) (no_labels a.parts a.are)
