-- Values of recipes, and agreement, over more labels and over fewer.
use Rattle.std.proofs.Common.{◌≡◌, ℕ, zero, suc, List, [], ◌∷◌, ◌++◌, length, Some, refl, sym, ap, ◌∙◌, arith, length-append}
use Rattle.std.specs.Prelude.{slice_get, option_and_then}
use Rattle.anb_term.specs.Tree.{Tree}
use Rattle.anb_term.specs.Value.{Meaning, RecipeTree, label, build, part, RecipeTrees, no_recipes, more_recipes, value, values, build_if, part_if, cons_both}
use Rattle.anb_term.specs.FreeAlgebra.{terms_over}
use Rattle.anb_term.specs.Agree.{Agree}
use Rattle.anb_term.proofs.Lists.{slice_get-append, cons_of_both}
use Rattle.anb_term.proofs.Steps.{bound, consed}

module _ {A : Type 0} (m : Meaning A) (xs ys : List A) where
  mutual
    pub value_more : (r : RecipeTree) (x : A) → value m xs r ≡ Some x → value m (xs ++ ys) r ≡ Some x
    value_more (label n) x e = slice_get-append xs ys n x e
    value_more (build o rs) x e =
        let b = bound (build_if m o) (values m xs rs) x e in
        ap (option_and_then (build_if m o)) (values_more rs b.0 b.1) ∙ b.2
    value_more (part o j ks r) x e =
        let a = bound (λ kv. option_and_then (part_if m o j kv) (value m xs r)) (values m xs ks) x e in
        let b = bound (part_if m o j a.0) (value m xs r) x a.2 in
        ap (option_and_then (λ kv. option_and_then (part_if m o j kv) (value m (xs ++ ys) r))) (values_more ks a.0 a.1)
        ∙ ap (option_and_then (part_if m o j a.0)) (value_more r b.0 b.1) ∙ b.2

    pub values_more : (rs : RecipeTrees) (vs : List A) → values m xs rs ≡ Some vs → values m (xs ++ ys) rs ≡ Some vs
    values_more no_recipes vs e = e
    values_more (more_recipes r rs) vs e =
        let c = consed (value m xs r) (values m xs rs) vs e in
        cons_of_both (value m (xs ++ ys) r) (values m (xs ++ ys) rs) c.0 c.1 (value_more r c.0 c.2) (values_more rs c.1 c.3) ∙ ap Some (sym c.4)

get_same : {A B : Type 0} (xs : List B) (vs ws : List A) (n : ℕ) (t : B) → length vs ≡ length xs → slice_get xs n ≡ Some t → slice_get (vs ++ ws) n ≡ slice_get vs n
get_same [] vs ws n t l e = cc
get_same (x ∷ xs) [] ws n t l e = absurd (omega arith)
get_same (x ∷ xs) (v ∷ vs) ws zero t l e = refl
get_same (x ∷ xs) (v ∷ vs) ws (suc n) t l e = get_same xs vs ws n t (omega arith) e

module _ {A B : Type 0} (k : Meaning B) (m : Meaning A) (frame : List B) (vs ws : List A) (long : length vs ≡ length frame) where
  mutual
    pub value_same : (r : RecipeTree) (t : B) → value k frame r ≡ Some t → value m (vs ++ ws) r ≡ value m vs r
    value_same (label n) t e = get_same frame vs ws n t long e
    value_same (build o rs) t e =
        let b = bound (build_if k o) (values k frame rs) t e in
        ap (option_and_then (build_if m o)) (values_same rs b.0 b.1)
    value_same (part o j ks r) t e =
        let a = bound (λ kv. option_and_then (part_if k o j kv) (value k frame r)) (values k frame ks) t e in
        let b = bound (part_if k o j a.0) (value k frame r) t a.2 in
        ap (λ x. option_and_then (λ kv. option_and_then (part_if m o j kv) (value m (vs ++ ws) r)) x) (values_same ks a.0 a.1)
        ∙ ap (λ x. option_and_then (λ kv. option_and_then (part_if m o j kv) x) (values m vs ks)) (value_same r b.0 b.1)

    pub values_same : (rs : RecipeTrees) (ts : List B) → values k frame rs ≡ Some ts → values m (vs ++ ws) rs ≡ values m vs rs
    values_same no_recipes ts e = refl
    values_same (more_recipes r rs) ts e =
        let c = consed (value k frame r) (values k frame rs) ts e in
        ap (λ x. cons_both x (values m (vs ++ ws) rs)) (value_same r c.0 c.2) ∙ ap (cons_both (value m vs r)) (values_same rs c.1 c.3)

-- labels that agree do so without the last ones
pub agree_before : {A : Type 0} (m : Meaning A) (frame more : List Tree) (vs ws : List A) → length vs ≡ length frame → Agree m (frame ++ more) (vs ++ ws) → Agree m frame vs
agree_before m frame more vs ws long agree = record {
  long = long;
  one = λ r s t er es.
      let h = agree.one r s t (value_more (terms_over m.has) frame more r t er) (value_more (terms_over m.has) frame more s t es) in
      (h.0, sym (value_same (terms_over m.has) m frame vs ws long r t er) ∙ h.1, sym (value_same (terms_over m.has) m frame vs ws long s t es) ∙ h.2);
}

pub one_more : {A B : Type 0} (xs : List A) (ys : List B) (x : A) (y : B) → length xs ≡ length ys → length (xs ++ x ∷ []) ≡ length (ys ++ y ∷ [])
one_more xs ys x y e = omega (arith, length-append xs (x ∷ []), length-append ys (y ∷ []))
