-- The composition with which an entry is compared.
use Rattle.std.proofs.Common.{◌≡◌, ℕ, ◌<◌, List, [], length, get_or, true, false, Option, Some, None, refl, sym, ap, ◌∙◌, arith, inl, inr, ⊎_elim}
use Rattle.std.specs.Prelude.{slice_get, ◌==◌}
use Rattle.std.proofs.lemmas.List.{length-map}
use Rattle.anb_lemmas.proofs.Options.{mapped_from}
use Rattle.anb_lemmas.proofs.Lists.{got_within}
use Rattle.anb_term.specs.declared.term.Op.{Op}
use Rattle.anb_term.specs.declared.term.Term.{Term}
use Rattle.anb_term.specs.declared.term.Term.TheVariants.{Atom, Node}
use Rattle.anb_term.specs.Tree.{Tree, leaf, node, Trees, trees_of, list_of, IsFormed}
use Rattle.anb_term.specs.Operator.{arity, undoable}
use Rattle.anb_term.specs.View.{tree_of}
use Rattle.anb_close.specs.Rows.{place, made_for, mades_for}
use Rattle.anb_close.proofs.Rows.{optional, built_some, place_at, place_own, row_term, entry_made, made_leaf}
use Rattle.anb_close.specs.declared.entry.Entry.{Entry}
use Rattle.anb_close.specs.Entries.{rows, terms_of, IsKnown}
use Rattle.anb_close.proofs.Finding.{rows_length}
use Rattle.anb_term.proofs.Lists.{slice_get-map, slice_get-at, slice_get-there}
use Rattle.anb_close.proofs.Growing.{formed_at}
use Rattle.anb_basis.specs.Checks.{IsComparedWith}

leaf_place : (rs : List (Option Tree)) (t : Tree) (i : ℕ) → made_for rs t ≡ Some (leaf i) → place rs t ≡ Some i
leaf_place rs (leaf n) i e = let h = mapped_from leaf (place rs (leaf n)) (leaf i) e in let a = h.1 in let b = h.2 in let s : h.0 ≡ i = cc in a ∙ ap Some s
leaf_place rs (node o ts) i e =
    ⊎_elim
    (λ (j, p). let s : j ≡ i = (let q = rw p at e in cc) in p ∙ ap Some s)
    (λ p. let h = built_some o (length (list_of ts) == arity o) (mades_for rs ts) (leaf i) (rw p at e) in let b = h.3 in let no : ⊥ = cc in absurd no)
    (optional (place rs (node o ts)))

pub term_here : (es fs : List Entry) (i : ℕ) (x : Entry) → fs ≡ es → i < length es → x ≡ get_or fs i x → slice_get (terms_of es) i ≡ Some (tree_of x.term)
term_here es fs i x is h own = slice_get-map (λ (y : Entry). tree_of y.term) es i x (slice_get-at es i x h (own ∙ ap (λ l. get_or l i x) is))

module _ (es : List Entry) (known : IsKnown es) (i : ℕ) (term : Term) (here : slice_get (terms_of es) i ≡ Some (tree_of term)) where
  pub formed_here : IsFormed (λ o. true) (tree_of term)
  formed_here = formed_at (λ o. true) (terms_of es) i (tree_of term) known.formed here

  pub some_here : None ≡ made_for (rows es) (tree_of term) → ⊥
  some_here e = let m = entry_made [] (terms_of es) i (tree_of term) here in let s = m.1 in cc

  by_row : (r : Option Tree) (c : Tree) → slice_get (rows es) i ≡ Some r → Some c ≡ made_for (rows es) (tree_of term) → (c ≡ leaf i → ⊥) → IsComparedWith es i c
  by_row None c row e other = inl (tree_of term, row, here, sym e)
  by_row (Some u) c row e other =
      let t = row_term (terms_of es) i u row in
      let o = here in
      let s : u ≡ tree_of term = cc in
      let p = place_own (terms_of es) i (tree_of term) (row ∙ ap (λ y. Some (Some y)) s) in
      let l = made_leaf (rows es) (tree_of term) i p in
      absurd (other (let q : c ≡ leaf i = cc in q))

  pub compared : (c : Tree) → Some c ≡ made_for (rows es) (tree_of term) → (c ≡ leaf i → ⊥) → IsComparedWith es i c
  compared c e other = let r = slice_get-there (rows es) i (omega (arith, rows_length es, got_within (terms_of es) i (tree_of term) here, length-map es (λ (y : Entry). tree_of y.term))) in by_row r.0 c r.1 e other

  module _ (lone : Some (leaf i) ≡ made_for (rows es) (tree_of term)) where
    row : slice_get (rows es) i ≡ Some (Some (tree_of term))
    row = place_at (rows es) (tree_of term) i (leaf_place (rows es) (tree_of term) i (sym lone))

    not_compared : (c : Tree) → ((o : Op) (us ms : Trees) → tree_of term ≡ node o us → undoable o ≡ false → mades_for (rows es) us ≡ Some ms → ⊥) → IsComparedWith es i c → ⊥
    not_compared c never (inl (t, r, at, made)) = let q = row in cc
    not_compared c never (inr (o, us, ms, r, u, made, is)) = let q = row in never o us ms (let s : tree_of term ≡ node o us = cc in s) u made

    pub atom_not : (n : ℕ) → term ≡ Atom n → (c : Tree) → IsComparedWith es i c → ⊥
    atom_not n is c k = not_compared c (λ o us ms e u made. let s = ap tree_of is in cc) k

    pub undone_not : (p : Op) (ts : List Tree) → term ≡ Node p ts → undoable p ≡ true → (c : Tree) → IsComparedWith es i c → ⊥
    undone_not p ts is v c k = not_compared c (λ o us ms e u made. let s : node p (trees_of ts) ≡ node o us = sym (ap tree_of is) ∙ e in let q : p ≡ o = cc in let w = ap undoable q in cc) k

    pub none_not : (p : Op) (ts : List Tree) → term ≡ Node p ts → None ≡ mades_for (rows es) (trees_of ts) → (c : Tree) → IsComparedWith es i c → ⊥
    none_not p ts is v c k = not_compared c (λ o us ms e u made. let s : node p (trees_of ts) ≡ node o us = sym (ap tree_of is) ∙ e in let q : trees_of ts ≡ us = cc in let w = ap (mades_for (rows es)) q in cc) k

    pub rebuilt : (p : Op) (ts ms : List Tree) → term ≡ Node p ts → undoable p ≡ false → Some (trees_of ms) ≡ mades_for (rows es) (trees_of ts) → IsComparedWith es i (node p (trees_of ms))
    rebuilt p ts ms is u made = inr (p, trees_of ts, trees_of ms, row ∙ ap (λ t. Some (Some (tree_of t))) is, u, sym made, refl)

-- an entry that is no double, and whose operator can be undone or that is an atom, isn't compared
pub passed_over : (es : List Entry) (i : ℕ) (x : Entry) (c : Tree) → i < length es → x ≡ get_or es i x
    → (((o : Op) (us : Trees) → tree_of x.term ≡ node o us → undoable o ≡ false → ⊥)) → (slice_get (rows es) i ≡ Some None → ⊥) → IsComparedWith es i c → ⊥
passed_over es i x c h own never single (inl (t, r, at, made)) = single r
passed_over es i x c h own never single (inr (o, us, ms, r, u, made, is)) =
    let at = term_here es es i x refl h own in
    let t = row_term (terms_of es) i (node o us) r in
    never o us (let s : tree_of x.term ≡ node o us = cc in s) u
