-- Lists in strict order that have the same members are equal.
use Rattle.std.proofs.Common.{◌≡◌, ℕ, zero, suc, List, [], ◌∷◌, Ordering, Less, Equal, Greater, refl, sym, ap, ◌∙◌, subst, arith, inl, inr}
use Rattle.std.specs.Prelude.{AllPairs}
use Rattle.std.specs.Ordering.{nat_cmp, ordering_reverse}
use Rattle.std.specs.Cmp.Lexicographic.{slice_cmp}
use Rattle.std.proofs.lemmas.Cmp.{nat_list_cmp_total}
use Rattle.anb_term.specs.Tree.{Tree}
use Rattle.anb_term.specs.Composes.{Among}

not_both : (o : Ordering) → o ≡ Less → ordering_reverse o ≡ Less → ⊥
not_both Less is js = absurd (cc)
not_both Equal is js = absurd (cc)
not_both Greater is js = absurd (cc)

-- of two texts one comes before the other at most
pub one_before : (xs ys : List ℕ) → slice_cmp nat_cmp xs ys ≡ Less → slice_cmp nat_cmp ys xs ≡ Less → ⊥
one_before xs ys is js = not_both (slice_cmp nat_cmp xs ys) is (sym (nat_list_cmp_total.antisymm ys xs) ∙ js)

module _ (Before : Tree → Tree → Type 0) where
  first_before : (t u : Tree) (ts : List Tree) → AllPairs Before (t ∷ ts) → Among ts u → Before t u
  first_before t u [] pairs never = absurd never
  first_before t u (x ∷ ts) pairs (inl is) = subst (Before t) is (pairs 0 1 t (omega arith) (omega arith))
  first_before t u (x ∷ ts) pairs (inr more) = first_before t u ts (skipping x ts pairs) more where
    skipping : (x : Tree) (ts : List Tree) → AllPairs Before (t ∷ x ∷ ts) → AllPairs Before (t ∷ ts)
    skipping x ts pairs zero zero d less within = absurd (omega (arith, less))
    skipping x ts pairs zero (suc j) d less within = pairs zero (suc (suc j)) d (omega arith) (omega (arith, within))
    skipping x ts pairs (suc i) zero d less within = absurd (omega (arith, less))
    skipping x ts pairs (suc i) (suc j) d less within = pairs (suc (suc i)) (suc (suc j)) d (omega (arith, less)) (omega (arith, within))

  rest_in_order : (t : Tree) (ts : List Tree) → AllPairs Before (t ∷ ts) → AllPairs Before ts
  rest_in_order t ts pairs i j d less within = pairs (suc i) (suc j) d (omega (arith, less)) (omega (arith, within))

  module _ (one_way : (t u : Tree) → Before t u → Before u t → ⊥) where
    abbrev Holds : List Tree → List Tree → Type 0
    Holds ts us = (u : Tree) → Among us u → Among ts u

    same_first : (t u : Tree) (ts us : List Tree) → AllPairs Before (t ∷ ts) → AllPairs Before (u ∷ us) → Holds (u ∷ us) (t ∷ ts) → Holds (t ∷ ts) (u ∷ us) → t ≡ u
    same_first t u ts us one two into back = elim (into t (inl refl)) [
      | inl is ↦ sym is
      | inr later ↦ elim (back u (inl refl)) [
        | inl is ↦ is
        | inr behind ↦ absurd (one_way t u (first_before t u ts one behind) (first_before u t us two later))
      ]
    ]

    rest_holds : (t u : Tree) (ts us : List Tree) → t ≡ u → AllPairs Before (t ∷ ts) → Holds (u ∷ us) (t ∷ ts) → Holds us ts
    rest_holds t u ts us same one into v among = elim (into v (inr among)) [
      | inl is ↦ let before : Before t v = first_before t v ts one among in
          let itself : Before v v = subst (λ (x : Tree). Before x v) (same ∙ is) before in absurd (one_way v v itself itself)
      | inr later ↦ later
    ]

    pub same_list : (ts us : List Tree) → AllPairs Before ts → AllPairs Before us → Holds us ts → Holds ts us → ts ≡ us
    same_list [] [] one two into back = refl
    same_list [] (u ∷ us) one two into back = absurd (back u (inl refl))
    same_list (t ∷ ts) [] one two into back = absurd (into t (inl refl))
    same_list (t ∷ ts) (u ∷ us) one two into back =
        let first = same_first t u ts us one two into back in
        let rest = same_list ts us (rest_in_order t ts one) (rest_in_order u us two) (rest_holds t u ts us first one into) (rest_holds u t us ts (sym first) two back) in
        ap (λ x. x ∷ ts) first ∙ ap (λ l. u ∷ l) rest
