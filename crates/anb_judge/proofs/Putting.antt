-- Recipes with recipes put in the places of their labels.
use Rattle.std.proofs.Common.{◌≡◌, ℕ, zero, suc, List, [], ◌∷◌, length, Option, Some, refl, sym, ap, ◌∙◌}
use Rattle.std.specs.Prelude.{slice_get, option_and_then, unwrap_or}
use Rattle.anb_term.specs.Value.{Meaning, RecipeTree, label, build, part, RecipeTrees, no_recipes, more_recipes, value, values, build_if, part_if, cons_both}
use Rattle.anb_term.proofs.Steps.{bound, consed}

module _ (places : List RecipeTree) where
  abbrev mutual
    -- a label that has no recipe stays
    pub put : RecipeTree → RecipeTree
    put (label n) = unwrap_or (slice_get places n) (label n)
    put (build o rs) = build o (put_all rs)
    put (part o j ks r) = part o j (put_all ks) (put r)

    pub put_all : RecipeTrees → RecipeTrees
    put_all no_recipes = no_recipes
    put_all (more_recipes r rs) = more_recipes (put r) (put_all rs)

-- the recipes have over one frame the values of the labels of another
abbrev pub AreAt : {A : Type 0} → Meaning A → (vs : List A) → List RecipeTree → (ws : List A) → Type 0
AreAt {A} m vs places ws = (n : ℕ) (x : A) → slice_get ws n ≡ Some x → value m vs (put places (label n)) ≡ Some x

-- what a recipe has over the one, it has over the other with these recipes
module _ {A : Type 0} (m : Meaning A) (vs ws : List A) (places : List RecipeTree) (at : AreAt m vs places ws) where
  mutual
    pub value_put : (r : RecipeTree) (x : A) → value m ws r ≡ Some x → value m vs (put places r) ≡ Some x
    value_put (label n) x e = at n x e
    value_put (build o rs) x e =
        let b = bound (build_if m o) (values m ws rs) x e in
        ap (option_and_then (build_if m o)) (values_put rs b.0 b.1) ∙ b.2
    value_put (part o j ks r) x e =
        let a = bound (λ kv. option_and_then (part_if m o j kv) (value m ws r)) (values m ws ks) x e in
        let b = bound (part_if m o j a.0) (value m ws r) x a.2 in
        ap (option_and_then (λ kv. option_and_then (part_if m o j kv) (value m vs (put places r)))) (values_put ks a.0 a.1)
        ∙ ap (option_and_then (part_if m o j a.0)) (value_put r b.0 b.1) ∙ b.2

    pub values_put : (rs : RecipeTrees) (xs : List A) → values m ws rs ≡ Some xs → values m vs (put_all places rs) ≡ Some xs
    values_put no_recipes xs e = e
    values_put (more_recipes r rs) xs e =
        let c = consed (value m ws r) (values m ws rs) xs e in
        ap (λ o. cons_both o (values m vs (put_all places rs))) (value_put r c.0 c.2) ∙ ap (cons_both (Some c.0)) (values_put rs c.1 c.3) ∙ ap Some (sym c.4)

-- and the same whether it has a value or not, where it has one in another algebra over labels that are as many
module _ {A B : Type 0} (k : Meaning B) (m : Meaning A) (frame : List B) (vs ws : List A) (places : List RecipeTree) (at : AreAt m vs places ws)
    (there : (n : ℕ) (t : B) → slice_get frame n ≡ Some t → (x : A) × (slice_get ws n ≡ Some x)) where
  mutual
    pub same_put : (r : RecipeTree) (t : B) → value k frame r ≡ Some t → value m vs (put places r) ≡ value m ws r
    same_put (label n) t e = let x = there n t e in at n x.0 x.1 ∙ sym x.1
    same_put (build o rs) t e =
        let b = bound (build_if k o) (values k frame rs) t e in
        ap (option_and_then (build_if m o)) (all_same_put rs b.0 b.1)
    same_put (part o j ks r) t e =
        let a = bound (λ kv. option_and_then (part_if k o j kv) (value k frame r)) (values k frame ks) t e in
        let b = bound (part_if k o j a.0) (value k frame r) t a.2 in
        ap (λ x. option_and_then (λ kv. option_and_then (part_if m o j kv) (value m vs (put places r))) x) (all_same_put ks a.0 a.1)
        ∙ ap (λ x. option_and_then (λ kv. option_and_then (part_if m o j kv) x) (values m ws ks)) (same_put r b.0 b.1)

    pub all_same_put : (rs : RecipeTrees) (ts : List B) → values k frame rs ≡ Some ts → values m vs (put_all places rs) ≡ values m ws rs
    all_same_put no_recipes ts e = refl
    all_same_put (more_recipes r rs) ts e =
        let c = consed (value k frame r) (values k frame rs) ts e in
        ap (λ x. cons_both x (values m vs (put_all places rs))) (same_put r c.0 c.2) ∙ ap (cons_both (value m ws r)) (all_same_put rs c.1 c.3)
