-- When a term has parts.
use Rattle.std.proofs.Common.{◌≡◌, List, length, map, take, drop, Bool, true, false, ◌&&◌, cond, Some, None, refl, sym, ap, ◌∙◌}
use Rattle.std.specs.Prelude.{◌==◌, option_map}
use Rattle.std.proofs.lemmas.Bool.{eqb-true, eq-eqb, and_parts}
use Rattle.anb_term.specs.declared.term.Op.{Op}
use Rattle.anb_term.specs.declared.term.Term.{Term}
use Rattle.anb_term.specs.declared.term.Term.TheVariants.{Node}
use Rattle.anb_term.specs.Operator.{arity, keys, undoable, op_eqb}
use Rattle.anb_term.specs.Tree.{Tree, node, trees_of, list_of, trees_eqb}
use Rattle.anb_term.specs.View.{tree_of, term_of}
use Rattle.anb_term.specs.TreeSame.{list_of-trees_of, trees_same, trees_itself, op_itself}
use Rattle.anb_term.specs.FreeAlgebra.{parts_of, term_meaning}

tree_parts : (o : Op) (ks ts : List Tree) → undoable o ≡ true → length ts ≡ arity o → ks ≡ take (keys o) ts → parts_of o ks (node o (trees_of ts)) ≡ Some (drop (keys o) ts)
tree_parts o ks ts u l k = rw (list_of-trees_of ts, k, u, op_itself o, eq-eqb (length ts) (arity o) l, trees_itself (trees_of (take (keys o) ts)))

pub has_parts : (o : Op) (ks : List Term) (ts : List Tree) → undoable o ≡ true → length ts ≡ arity o → map tree_of ks ≡ take (keys o) ts → term_meaning.undone o ks (Node o ts) ≡ Some (map term_of (drop (keys o) ts))
has_parts o ks ts u l k = ap (option_map (map term_of)) (tree_parts o (map tree_of ks) ts u l k)

unless : {A : Type 0} (b : Bool) (x : A) → (b ≡ true → ⊥) → cond b (Some x) None ≡ None
unless true x h = absurd (h refl)
unless false x h = refl

tree_no_parts : (o p : Op) (ks ts : List Tree) → (ks ≡ take (keys o) ts → ⊥) → parts_of o ks (node p (trees_of ts)) ≡ None
tree_no_parts o p ks ts h =
    unless _ _ (λ b.
    let d = and_parts (undoable o && op_eqb o p && (length (list_of (trees_of ts)) == arity o)) (trees_eqb (trees_of ks) (trees_of (take (keys o) (list_of (trees_of ts))))) b in
    h (sym (list_of-trees_of ks) ∙ ap list_of (trees_same _ _ d.1) ∙ list_of-trees_of _ ∙ ap (take (keys o)) (list_of-trees_of ts)))

pub no_parts : (o p : Op) (ks : List Term) (ts : List Tree) → (map tree_of ks ≡ take (keys o) ts → ⊥) → term_meaning.undone o ks (Node p ts) ≡ None
no_parts o p ks ts h = ap (option_map (map term_of)) (tree_no_parts o p (map tree_of ks) ts h)

-- nor has a term with another number of operands
tree_misbuilt : (o p : Op) (ks ts : List Tree) → (length ts ≡ arity o → ⊥) → parts_of o ks (node p (trees_of ts)) ≡ None
tree_misbuilt o p ks ts h =
    unless _ _ (λ b.
    let d = and_parts (undoable o && op_eqb o p && (length (list_of (trees_of ts)) == arity o)) (trees_eqb (trees_of ks) (trees_of (take (keys o) (list_of (trees_of ts))))) b in
    let n = and_parts (undoable o && op_eqb o p) (length (list_of (trees_of ts)) == arity o) d.0 in
    h (sym (ap length (list_of-trees_of ts)) ∙ eqb-true _ _ n.1))

pub misbuilt : (o p : Op) (ks : List Term) (ts : List Tree) → (length ts ≡ arity o → ⊥) → term_meaning.undone o ks (Node p ts) ≡ None
misbuilt o p ks ts h = ap (option_map (map term_of)) (tree_misbuilt o p (map tree_of ks) ts h)
