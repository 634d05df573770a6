-- Recipes have the same values over terms as over trees.
use Rattle.std.proofs.Common.{◌≡◌, ℕ, zero, suc, List, [], ◌∷◌, length, map, Bool, true, false, cond, Option, Some, None, refl, ap, ◌∙◌}
use Rattle.std.specs.Prelude.{slice_get, option_and_then, option_map, ◌==◌}
use Rattle.std.proofs.lemmas.List.{length-map}
use Rattle.anb_term.specs.declared.term.Op.{Op}
use Rattle.anb_term.specs.declared.term.Term.{Term}
use Rattle.anb_term.specs.Operator.{arity, keys}
use Rattle.anb_term.specs.Tree.{Tree}
use Rattle.anb_term.specs.View.{tree_of, term_of}
use Rattle.anb_term.specs.TreeSame.{terms_trees}
use Rattle.anb_term.specs.Value.{RecipeTree, label, build, part, RecipeTrees, no_recipes, more_recipes, value, values, build_if, part_if, cons_both}
use Rattle.anb_term.specs.FreeAlgebra.{parts_of, terms, term_meaning}
use Rattle.anb_term.specs.Statements.{TermsAreTrees}

at_place : {A B : Type 0} (f : A → B) (xs : List A) (n : ℕ) → option_map f (slice_get xs n) ≡ slice_get (map f xs) n
at_place f [] n = refl
at_place f (x ∷ xs) zero = refl
at_place f (x ∷ xs) (suc n) = at_place f xs n

-- a chain of two steps led over
led : {A B C D : Type 0} (g : A → C) (h : B → D) (f : A → Option B) (k : C → Option D) (o : Option A) → ((x : A) → option_map h (f x) ≡ k (g x)) → option_map h (option_and_then f o) ≡ option_and_then k (option_map g o)
led g h f k None e = refl
led g h f k (Some x) e = e x

cond_led : {A B : Type 0} (h : A → B) (b : Bool) (o : Option A) → option_map h (cond b o None) ≡ cond b (option_map h o) None
cond_led h true o = refl
cond_led h false o = refl

built_led : (o : Op) (xs : List Term) → option_map tree_of (build_if term_meaning o xs) ≡ build_if terms o (map tree_of xs)
built_led o xs = rw (length-map xs tree_of) (cond_led tree_of (length xs == arity o) (Some (term_meaning.built o xs)))

one_of : (j : ℕ) (o : Option (List Tree)) → option_map tree_of (option_and_then (λ ps. slice_get ps j) (option_map (map term_of) o)) ≡ option_and_then (λ ps. slice_get ps j) o
one_of j None = refl
one_of j (Some ps) = at_place tree_of (map term_of ps) j ∙ ap (λ l. slice_get l j) (terms_trees ps)

part_led : (o : Op) (j : ℕ) (ks : List Term) (v : Term) → option_map tree_of (part_if term_meaning o j ks v) ≡ part_if terms o j (map tree_of ks) (tree_of v)
part_led o j ks v =
    rw (length-map ks tree_of) (cond_led tree_of (length ks == keys o) (option_and_then (λ ps. slice_get ps j) (term_meaning.undone o ks v))
    ∙ ap (λ (x : Option Tree). cond (length ks == keys o) x None) (one_of j (parts_of o (map tree_of ks) (tree_of v))))

consed_led : (o : Option Term) (os : Option (List Term)) → option_map (map tree_of) (cons_both o os) ≡ cons_both (option_map tree_of o) (option_map (map tree_of) os)
consed_led None os = refl
consed_led (Some x) None = refl
consed_led (Some x) (Some xs) = refl

module _ (vs : List Term) where
  mutual
    translated : (r : RecipeTree) → option_map tree_of (value term_meaning vs r) ≡ value terms (map tree_of vs) r
    translated (label n) = at_place tree_of vs n
    translated (build o rs) =
        led (map tree_of) tree_of (build_if term_meaning o) (build_if terms o) (values term_meaning vs rs) (built_led o)
        ∙ ap (option_and_then (build_if terms o)) (all_translated rs)
    translated (part o j ks r) =
        led (map tree_of) tree_of (λ kv. option_and_then (part_if term_meaning o j kv) (value term_meaning vs r)) (λ kv. option_and_then (part_if terms o j kv) (option_map tree_of (value term_meaning vs r)))
        (values term_meaning vs ks) (λ kv. led tree_of tree_of (part_if term_meaning o j kv) (part_if terms o j (map tree_of kv)) (value term_meaning vs r) (part_led o j kv))
        ∙ ap (option_and_then (λ kv. option_and_then (part_if terms o j kv) (option_map tree_of (value term_meaning vs r)))) (all_translated ks)
        ∙ ap (λ (x : Option Tree). option_and_then (λ kv. option_and_then (part_if terms o j kv) x) (values terms (map tree_of vs) ks)) (translated r)

    all_translated : (rs : RecipeTrees) → option_map (map tree_of) (values term_meaning vs rs) ≡ values terms (map tree_of vs) rs
    all_translated no_recipes = refl
    all_translated (more_recipes r rs) =
        consed_led (value term_meaning vs r) (values term_meaning vs rs)
        ∙ ap (λ (x : Option Tree). cons_both x (option_map (map tree_of) (values term_meaning vs rs))) (translated r)
        ∙ ap (cons_both (value terms (map tree_of vs) r)) (all_translated rs)

pub terms_are_trees : TermsAreTrees
terms_are_trees vs r = translated vs r
