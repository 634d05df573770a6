-- A frame, label by label.
use Rattle.std.proofs.Common.{◌≡◌, ℕ, zero, suc, ◌+◌, ◌<◌, ◌≤◌, List, [], ◌∷◌, ◌++◌, length, map, take, get_or, true, sym, ap, ◌∙◌, arith}
use Rattle.std.proofs.lemmas.List.{take_more}
use Rattle.anb_term.specs.declared.term.Term.{Term}
use Rattle.anb_term.specs.Tree.{trees_of, tree_size, IsFormed, AreFormed, nodes}
use Rattle.anb_term.specs.View.{tree_of}
use Rattle.anb_close.specs.declared.entry.Entry.{Entry}
use Rattle.anb_close.specs.Entries.{labels_of, HasAdded}
use Rattle.anb_term.proofs.Lists.{slice_get-map, map-append, slice_get-at}
use Rattle.anb_close.proofs.Growing.{formed_at, labels_append, no_labels}

pub formed_one : (ts : List Term) (i : ℕ) (t : Term) → AreFormed (λ o. true) (trees_of (map tree_of ts)) → i < length ts → t ≡ get_or ts i t → IsFormed (λ o. true) (tree_of t)
formed_one ts i t f h own = formed_at (λ o. true) (map tree_of ts) i (tree_of t) f (slice_get-map tree_of ts i t (slice_get-at ts i t h own))

pub room_left : (ts : List Term) (i : ℕ) (t : Term) → i < length ts → t ≡ get_or ts i t → nodes (map tree_of (take i ts)) + tree_size (tree_of t) ≤ nodes (map tree_of ts)
room_left [] i t h own = absurd (omega arith)
room_left (x ∷ ts) zero t h own = let s = ap (λ y. tree_size (tree_of y)) own in omega arith
room_left (x ∷ ts) (suc i) t h own = omega (arith, room_left ts i t (omega arith) own)

pub one_label : (es es' : List Entry) (ts : List Term) (i : ℕ) (t : Term) → HasAdded es t es' → labels_of es ≡ map tree_of (take i ts) → i < length ts → t ≡ get_or ts i t → labels_of es' ≡ map tree_of (take (i + 1) ts)
one_label es es' ts i t a before h own =
    ap labels_of a.is ∙ labels_append es _ ∙ ap (λ l. labels_of es ++ tree_of t ∷ l) (no_labels a.parts a.are) ∙ ap (λ l. l ++ tree_of t ∷ []) before
    ∙ sym (ap (map tree_of) (take_more ts i t h) ∙ map-append tree_of (take i ts) (get_or ts i t ∷ []) ∙ ap (λ y. map tree_of (take i ts) ++ tree_of y ∷ []) (sym own))
