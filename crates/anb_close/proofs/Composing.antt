-- Whatever has a value composes.
use Rattle.std.proofs.Common.{◌≡◌, ℕ, List, [], ◌∷◌, length, Bool, true, false, ◌&&◌, cond, IsTrue, Option, Some, None, take, drop, sym, ap, ◌∙◌, subst, inl, inr, ◌⊎◌}
use Rattle.std.specs.Prelude.{slice_get, option_and_then, ◌==◌}
use Rattle.std.specs.List.{AllByRecursion}
use Rattle.std.proofs.lemmas.Bool.{eqb-true, and_parts}
use Rattle.std.proofs.lemmas.Option.{cond_some}
use Rattle.anb_lemmas.proofs.Each.{each_got}
use Rattle.anb_term.specs.declared.term.Op.{Op}
use Rattle.anb_term.specs.Tree.{Tree, leaf, node, Trees, none, more, trees_of, list_of, trees_eqb}
use Rattle.anb_term.specs.Operator.{op_eqb, arity, keys, undoable}
use Rattle.anb_term.specs.Value.{RecipeTree, label, build, part, RecipeTrees, no_recipes, more_recipes, value, values, build_if, part_if}
use Rattle.anb_term.specs.TreeSame.{list_of-trees_of, op_same, trees_same}
use Rattle.anb_term.specs.FreeAlgebra.{terms, parts_of}
use Rattle.anb_term.specs.Composes.{Among, Composes, ComposeAll}
use Rattle.anb_close.specs.Closed.{IsClosed, EveryRecipeComposes}
use Rattle.anb_term.proofs.Lists.{all_drop}
use Rattle.anb_term.proofs.Steps.{bound, consed}

pub under : {A : Type 0} (b : Bool) (o : Option A) (t : A) → cond b o None ≡ Some t → o ≡ Some t
under true o t e = e
under false o t e = cc

pub no_part : (b : Bool) (j : ℕ) (t : Tree) → cond b (option_and_then (λ (ps : List Tree). slice_get ps j) None) None ≡ Some t → ⊥
no_part true j t e = cc
no_part false j t e = cc

module _ (es : List Tree) where
  pub to_all : (ts : Trees) → ComposeAll es ts → AllByRecursion (Composes es) (list_of ts)
  to_all none h = tt
  to_all (more t ts) h = (h.0, to_all ts h.1)

  pub from_all : (ts : List Tree) → AllByRecursion (Composes es) ts → ComposeAll es (trees_of ts)
  from_all [] h = tt
  from_all (t ∷ ts) h = (h.0, from_all ts h.1)

  -- an operator on terms that compose
  built : (o : Op) (ts : List Tree) (t : Tree) → AllByRecursion (Composes es) ts → build_if terms o ts ≡ Some t → Composes es t
  built o ts t h e = let c = cond_some (length ts == arity o) (node o (trees_of ts)) t e in subst (Composes es) c.1 (inr (ap length (list_of-trees_of ts) ∙ eqb-true (length ts) (arity o) c.0, from_all ts h))

  -- the parts compose where the term and its keys do
  parts_compose : IsClosed es → (o : Op) (ks : List Tree) (ts : Trees) → IsTrue (undoable o) → ks ≡ take (keys o) (list_of ts) → AllByRecursion (Composes es) ks
      → Among es (node o ts) ⊎ ((length (list_of ts) ≡ arity o) × ComposeAll es ts) → AllByRecursion (Composes es) (drop (keys o) (list_of ts))
  parts_compose closed o ks ts u is_keys hk (inl here) = closed o ts here u (subst (AllByRecursion (Composes es)) is_keys hk)
  parts_compose closed o ks ts u is_keys hk (inr all) = all_drop (Composes es) (keys o) (list_of ts) (to_all ts all.1)

  -- a part of a term that composes, by keys that compose
  opened : IsClosed es → (o : Op) (j : ℕ) (ks : List Tree) (v t : Tree) → AllByRecursion (Composes es) ks → Composes es v → part_if terms o j ks v ≡ Some t → Composes es t
  opened closed o j ks (leaf n) t hk hv e = absurd (no_part (length ks == keys o) j t e)
  opened closed o j ks (node p ts) t hk hv e =
      let a = under (length ks == keys o) (option_and_then (λ ps. slice_get ps j) (parts_of o ks (node p ts))) t e in
      let b = bound (λ ps. slice_get ps j) (parts_of o ks (node p ts)) t a in
      let c = cond_some (undoable o && op_eqb o p && (length (list_of ts) == arity o) && trees_eqb (trees_of ks) (trees_of (take (keys o) (list_of ts)))) (drop (keys o) (list_of ts)) b.0 b.1 in
      let d = and_parts (undoable o && op_eqb o p && (length (list_of ts) == arity o)) _ c.0 in
      let l = and_parts (undoable o && op_eqb o p) _ d.0 in
      let f = and_parts (undoable o) (op_eqb o p) l.0 in
      let same : o ≡ p = op_same o p f.1 in
      let is_keys : ks ≡ take (keys o) (list_of ts) = sym (list_of-trees_of ks) ∙ ap list_of (trees_same _ _ d.1) ∙ list_of-trees_of _ in
      let v : Composes es (node o ts) = subst (λ q. Composes es (node q ts)) (sym same) hv in
      each_got (Composes es) b.0 j t (subst (AllByRecursion (Composes es)) c.1 (parts_compose closed o ks ts f.0 is_keys hk v)) b.2

module _ (es frame : List Tree) (closed : IsClosed es) (known : AllByRecursion (Composes es) frame) where
  mutual
    pub composes : (r : RecipeTree) (t : Tree) → value terms frame r ≡ Some t → Composes es t
    composes (label n) t e = each_got (Composes es) frame n t known e
    composes (build o rs) t e =
        let b = bound (build_if terms o) (values terms frame rs) t e in
        built es o b.0 t (compose_all rs b.0 b.1) b.2
    composes (part o j ks r) t e =
        let a = bound (λ kv. option_and_then (part_if terms o j kv) (value terms frame r)) (values terms frame ks) t e in
        let b = bound (part_if terms o j a.0) (value terms frame r) t a.2 in
        opened es closed o j a.0 b.0 t (compose_all ks a.0 a.1) (composes r b.0 b.1) b.2

    compose_all : (rs : RecipeTrees) (ts : List Tree) → values terms frame rs ≡ Some ts → AllByRecursion (Composes es) ts
    compose_all no_recipes ts e = let s : [] ≡ ts = cc in subst (AllByRecursion (Composes es)) s tt
    compose_all (more_recipes r rs) ts e =
        let c = consed (value terms frame r) (values terms frame rs) ts e in
        subst (AllByRecursion (Composes es)) (sym c.4) (composes r c.0 c.2, compose_all rs c.1 c.3)

pub every : EveryRecipeComposes
every es frame closed known r t e = composes es frame closed known r t e
