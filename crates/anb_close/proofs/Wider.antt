-- A recipe has its value in terms also over more operators.
use Rattle.std.proofs.Common.{◌≡◌, ℕ, List, ◌∷◌, length, Bool, Option, Some, sym, ap, ◌∙◌}
use Rattle.std.specs.Prelude.{slice_get, option_and_then, ◌==◌}
use Rattle.anb_term.specs.declared.term.Op.{Op}
use Rattle.anb_term.specs.Operator.{arity, keys}
use Rattle.anb_term.specs.Tree.{Tree, node, trees_of}
use Rattle.anb_term.specs.Value.{RecipeTree, label, build, part, RecipeTrees, no_recipes, more_recipes, value, values, build_if, part_if, cons_both}
use Rattle.anb_term.specs.FreeAlgebra.{parts_of, terms, terms_over}
use Rattle.anb_term.proofs.Steps.{bound, consed, guarded}

module _ (has : Op → Bool) (frame : List Tree) where
  built : (o : Op) (ts : List Tree) (t : Tree) → build_if (terms_over has) o ts ≡ Some t → build_if terms o ts ≡ Some t
  built o ts t e = let g = guarded (has o) (length ts == arity o) (Some (node o (trees_of ts))) t e in rw (g.1) (g.2)

  opened : (o : Op) (j : ℕ) (ks : List Tree) (u t : Tree) → part_if (terms_over has) o j ks u ≡ Some t → part_if terms o j ks u ≡ Some t
  opened o j ks u t e = let g = guarded (has o) (length ks == keys o) (option_and_then (λ ps. slice_get ps j) (parts_of o ks u)) t e in rw (g.1) (g.2)

  pair : (o : Option Tree) (os : Option (List Tree)) (x : Tree) (xs : List Tree) → o ≡ Some x → os ≡ Some xs → cons_both o os ≡ Some (x ∷ xs)
  pair o os x xs e f = rw (e, f)

  mutual
    pub wider : (r : RecipeTree) (t : Tree) → value (terms_over has) frame r ≡ Some t → value terms frame r ≡ Some t
    wider (label n) t e = e
    wider (build o rs) t e =
        let b = bound (build_if (terms_over has) o) (values (terms_over has) frame rs) t e in
        ap (option_and_then (build_if terms o)) (all_wider rs b.0 b.1) ∙ built o b.0 t b.2
    wider (part o j ks r) t e =
        let a = bound (λ kv. option_and_then (part_if (terms_over has) o j kv) (value (terms_over has) frame r)) (values (terms_over has) frame ks) t e in
        let b = bound (part_if (terms_over has) o j a.0) (value (terms_over has) frame r) t a.2 in
        ap (option_and_then (λ kv. option_and_then (part_if terms o j kv) (value terms frame r))) (all_wider ks a.0 a.1)
        ∙ ap (option_and_then (part_if terms o j a.0)) (wider r b.0 b.1) ∙ opened o j a.0 b.0 t b.2

    pub all_wider : (rs : RecipeTrees) (ts : List Tree) → values (terms_over has) frame rs ≡ Some ts → values terms frame rs ≡ Some ts
    all_wider no_recipes ts e = e
    all_wider (more_recipes r rs) ts e =
        let c = consed (value (terms_over has) frame r) (values (terms_over has) frame rs) ts e in
        pair (value terms frame r) (values terms frame rs) c.0 c.1 (wider r c.0 c.2) (all_wider rs c.1 c.3) ∙ ap Some (sym c.4)
