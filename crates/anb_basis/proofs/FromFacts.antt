-- The three facts are enough.
use Rattle.std.proofs.Common.{◌≡◌, ℕ, suc, List, [], ◌∷◌, length, map, ◌&&◌, Option, Some, take, drop, refl, sym, ap, ◌∙◌, subst}
use Rattle.std.specs.Prelude.{slice_get, option_and_then, ◌==◌}
use Rattle.std.specs.List.{AllByRecursion}
use Rattle.std.proofs.lemmas.Bool.{eqb-true, and_parts}
use Rattle.std.proofs.lemmas.Option.{cond_some}
use Rattle.anb_close.proofs.Composing.{no_part}
use Rattle.anb_lemmas.proofs.Options.{guard_passed}
use Rattle.anb_lemmas.proofs.Each.{each_got}
use Rattle.anb_term.specs.declared.term.Op.{Op}
use Rattle.anb_term.specs.Tree.{Tree, leaf, node, trees_of, list_of, trees_eqb}
use Rattle.anb_term.specs.Operator.{op_eqb, arity, keys, undoable}
use Rattle.anb_term.specs.Value.{Meaning, RecipeTree, label, build, part, RecipeTrees, no_recipes, more_recipes, value, values, build_if, part_if, cons_both}
use Rattle.anb_term.specs.FreeAlgebra.{parts_of, terms_over}
use Rattle.anb_term.specs.Agree.{Agree}
use Rattle.anb_basis.specs.Facts.{ThreeFacts}
use Rattle.anb_term.proofs.Steps.{bound, consed}
use Rattle.anb_term.proofs.Lists.{slice_get-map}
use Rattle.anb_term.specs.TreeSame.{list_of-trees_of, op_same, trees_same}

map_length : {A B : Type 0} (f : A → B) (xs : List A) → length (map f xs) ≡ length xs
map_length f [] = refl
map_length f (x ∷ xs) = ap suc (map_length f xs)

module _ {A : Type 0} (m : Meaning A) (frame : List Tree) (vs : List A) (P : Tree → Type 0) (of : Tree → A) (facts : ThreeFacts m frame vs P of) where
  -- an operator on terms that compose
  built : (o : Op) (ts : List Tree) (t : Tree) → AllByRecursion P ts → build_if (terms_over m.has) o ts ≡ Some t → P t × (build_if m o (map of ts) ≡ Some (of t))
  built o ts t h e =
      let c = cond_some (m.has o && (length ts == arity o)) (node o (trees_of ts)) t e in
      let d = and_parts (m.has o) (length ts == arity o) c.0 in
      let f = facts.builds o ts d.0 (eqb-true _ _ d.1) h in
      let Q : Tree → Type 0 = λ u. P u × (build_if m o (map of ts) ≡ Some (of u)) in
      subst Q c.1 (f.0, rw (map_length of ts, d.0, d.1) (ap Some (sym f.1)))

  -- a part of a term that composes, by keys that compose
  opened : (o : Op) (j : ℕ) (ks : List Tree) (v t : Tree) → AllByRecursion P ks → P v → part_if (terms_over m.has) o j ks v ≡ Some t → P t × (part_if m o j (map of ks) (of v) ≡ Some (of t))
  opened o j ks (leaf n) t hk hv e = absurd (no_part (m.has o && (length ks == keys o)) j t e)
  opened o j ks (node p ts) t hk hv e =
      let g = guard_passed (m.has o && (length ks == keys o)) (option_and_then (λ ps. slice_get ps j) (parts_of o ks (node p ts))) t e in
      let h = and_parts (m.has o) (length ks == keys o) g.0 in
      let b = bound (λ ps. slice_get ps j) (parts_of o ks (node p ts)) t g.1 in
      let c = cond_some (undoable o && op_eqb o p && (length (list_of ts) == arity o) && trees_eqb (trees_of ks) (trees_of (take (keys o) (list_of ts)))) (drop (keys o) (list_of ts)) b.0 b.1 in
      let d = and_parts (undoable o && op_eqb o p && (length (list_of ts) == arity o)) _ c.0 in
      let l = and_parts (undoable o && op_eqb o p) _ d.0 in
      let f = and_parts (undoable o) (op_eqb o p) l.0 in
      let same : o ≡ p = op_same o p f.1 in
      let is_keys : ks ≡ take (keys o) (list_of ts) = sym (list_of-trees_of ks) ∙ ap list_of (trees_same _ _ d.1) ∙ list_of-trees_of _ in
      let v : P (node o ts) = subst (λ q. P (node q ts)) (sym same) hv in
      let w = facts.opens o ts h.0 f.0 v (subst (AllByRecursion P) is_keys hk) in
      let at : slice_get (drop (keys o) (list_of ts)) j ≡ Some t = subst (λ ps. slice_get ps j ≡ Some t) (sym c.1) b.2 in
      let undone : m.undone o (map of ks) (of (node p ts)) ≡ Some (map of (drop (keys o) (list_of ts))) = rw (← same, is_keys) w.1 in
      (each_got P _ j t w.0 at, rw (map_length of ks, h.0, h.1, undone) (slice_get-map of _ j t at))

  mutual
    pub has_value : (r : RecipeTree) (t : Tree) → value (terms_over m.has) frame r ≡ Some t → P t × (value m vs r ≡ Some (of t))
    has_value (label n) t e = facts.labels n t e
    has_value (build o rs) t e =
        let b = bound (build_if (terms_over m.has) o) (values (terms_over m.has) frame rs) t e in
        let h = have_values rs b.0 b.1 in
        let c = built o b.0 t h.0 b.2 in
        (c.0, rw h.1 c.1)
    has_value (part o j ks r) t e =
        let a = bound (λ kv. option_and_then (part_if (terms_over m.has) o j kv) (value (terms_over m.has) frame r)) (values (terms_over m.has) frame ks) t e in
        let b = bound (part_if (terms_over m.has) o j a.0) (value (terms_over m.has) frame r) t a.2 in
        let hk = have_values ks a.0 a.1 in
        let hr = has_value r b.0 b.1 in
        let c = opened o j a.0 b.0 t hk.0 hr.0 b.2 in
        (c.0, rw (hk.1, hr.1) c.1)

    pub have_values : (rs : RecipeTrees) (ts : List Tree) → values (terms_over m.has) frame rs ≡ Some ts → AllByRecursion P ts × (values m vs rs ≡ Some (map of ts))
    have_values no_recipes ts e =
        let s : [] ≡ ts = cc in
        let Q : List Tree → Type 0 = λ us. AllByRecursion P us × (◌≡◌ {A = Option (List A)} (Some []) (Some (map of us))) in
        subst Q s (tt, refl)
    have_values (more_recipes r rs) ts e =
        let c = consed (value (terms_over m.has) frame r) (values (terms_over m.has) frame rs) ts e in
        let h = has_value r c.0 c.2 in
        let hs = have_values rs c.1 c.3 in
        let Q : List Tree → Type 0 = λ us. AllByRecursion P us × (cons_both (value m vs r) (values m vs rs) ≡ Some (map of us)) in
        subst Q (sym c.4) ((h.0, hs.0), rw (h.1, hs.1))

  pub agree : length vs ≡ length frame → Agree m frame vs
  agree long = record { long = long; one = λ r s t er es. (of t, (has_value r t er).1, (has_value s t es).1) }
