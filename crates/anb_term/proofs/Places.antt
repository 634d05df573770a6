-- The first places of a table, and what an operator gives.
use Rattle.std.proofs.Common.{◌≡◌, ℕ, zero, suc, ◌<◌, ◌≤◌, List, [], ◌∷◌, ◌++◌, length, take, Option, Some, IsTrue, refl, ap, sym, ◌∙◌, arith, length-append, eq-eqb}
use Rattle.std.specs.Prelude.{slice_get, option_and_then}
use Rattle.std.specs.List.{All}
use Rattle.std.proofs.Math.Seq.{take-suc, take-append_seam, get_or-append_seam}
use Rattle.std.proofs.lemmas.List.Elements.{All-push, All-nil, filter_map-append}
use Rattle.std.proofs.lemmas.Option.{slice_get-get_or}
use Rattle.anb_term.specs.declared.term.Op.{Op}
use Rattle.anb_term.specs.RecipeView.{first_places}
use Rattle.anb_term.specs.Lawful.{picked}
use Rattle.anb_term.specs.Operator.{arity, keys}
use Rattle.anb_term.specs.Value.{Meaning, build_if, part_if}

pub length_first : (n : ℕ) → length (first_places n) ≡ n
length_first zero = refl
length_first (suc n) = omega (arith, length-append (first_places n) (n ∷ []), length_first n)

pub all_first : (n m : ℕ) → n ≤ m → All (λ i. i < m) (first_places n)
all_first zero m h = All-nil (λ i. i < m)
all_first (suc n) m h = All-push (λ i. i < m) (first_places n) n (all_first n m (omega arith)) (omega arith)

pub one_more : {A : Type 0} (zs : List A) (n : ℕ) (d : A) → n < length zs → picked zs (first_places n) ≡ take n zs → picked zs (first_places (suc n)) ≡ take (suc n) zs
one_more zs n d h before =
    filter_map-append (slice_get zs) (first_places n) (n ∷ []) ∙ rw (before, slice_get-get_or zs n d h, take-suc zs n d h)

pub picked_first : {A : Type 0} (n : ℕ) (zs : List A) → n ≤ length zs → picked zs (first_places n) ≡ take n zs
picked_first zero zs h = refl
picked_first (suc n) [] h = absurd (omega arith)
picked_first (suc n) (z ∷ zs) h = one_more (z ∷ zs) n z (omega arith) (picked_first n (z ∷ zs) (omega arith))

module _ {A : Type 0} (m : Meaning A) (o : Op) (has : IsTrue (m.has o)) where
  pub build_if_is : (xs : List A) → length xs ≡ arity o → build_if m o xs ≡ Some (m.built o xs)
  build_if_is xs e = rw (has, eq-eqb (length xs) (arity o) e)

  pub part_if_is : (j : ℕ) (ks : List A) (v : A) → length ks ≡ keys o → part_if m o j ks v ≡ option_and_then (λ ps. slice_get ps j) (m.undone o ks v)
  part_if_is j ks v e = rw (has, eq-eqb (length ks) (keys o) e)

  -- what undoing gave, over a table of the keys and then the value
  pub part_is : (j k of : ℕ) (table ks : List A) (at : List ℕ) (v : A) (u : Option (List A))
      → table ≡ ks ++ v ∷ [] → at ≡ first_places k → length ks ≡ k → k ≡ keys o → of ≡ k
      → ((w : A) → slice_get table of ≡ Some w → u ≡ m.undone o (picked table at) w)
      → part_if m o j ks v ≡ option_and_then (λ ps. slice_get ps j) u
  part_is j k of table ks at v u is_table is_at count is_keys is_of says =
      let long : k ≤ length (ks ++ v ∷ []) = omega (arith, length-append ks (v ∷ [])) in
      let keyed : picked (ks ++ v ∷ []) (first_places k) ≡ ks = picked_first k (ks ++ v ∷ []) long ∙ ap (λ n. take n (ks ++ v ∷ [])) (sym count) ∙ take-append_seam ks (v ∷ []) in
      let here : slice_get (ks ++ v ∷ []) (length ks) ≡ Some v = slice_get-get_or _ (length ks) v (omega (arith, length-append ks (v ∷ []))) ∙ ap Some (get_or-append_seam ks v [] v) in
      let last : slice_get table of ≡ Some v = rw (is_table, is_of, ← count) here in
      let picks : picked table at ≡ ks = rw (is_table, is_at) keyed in
      part_if_is j ks v (count ∙ is_keys) ∙ ap (option_and_then (λ ps. slice_get ps j)) (sym (says v last ∙ ap (λ l. m.undone o l v) picks))
