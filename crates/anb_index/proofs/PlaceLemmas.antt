-- Places in a list that grows.
use Rattle.std.proofs.Common.{subst, ◌≡◌, ℕ, ◌+◌, zero, suc, ◌≤◌, map, Bool, true, false, cond, List, [], ◌∷◌, ◌++◌, length, Option, Some, None, refl, sym, ap, ◌∙◌, arith, inl, inr}
use Rattle.std.specs.List.{find, list_any, position_from, slice_get}
use Rattle.std.specs.Option.{is_some}
use Rattle.std.specs.Str.{bytes_eq}
use Rattle.std.proofs.lemmas.Bool.{cases_Bool}
use Rattle.std.proofs.lemmas.Slice.Eq.{bytes_eq-Decides}
use Rattle.anb_index.specs.Places.{among, place_of}

module _ {X : Type 0} (test : X → Bool) where
  -- a place is there exactly where something passes
  pub is_some-position_from : (from : ℕ) (xs : List X) → is_some (position_from test from xs) ≡ list_any test xs
  is_some-position_from from [] = refl
  is_some-position_from from (x ∷ xs) = elim (cases_Bool (test x)) [
    | inl h ↦ rw h refl
    | inr h ↦ rw h (is_some-position_from (from + 1) xs)
  ]

  -- one more at the end leaves a place that is there
  pub position_from-found : (from : ℕ) (xs : List X) (x : X) → list_any test xs ≡ true → position_from test from (xs ++ x ∷ []) ≡ position_from test from xs
  position_from-found from [] x h = absurd (cc)
  position_from-found from (y ∷ xs) x h = elim (cases_Bool (test y)) [
    | inl k ↦ rw k refl
    | inr k ↦ rw k (position_from-found (from + 1) xs x (rw k at h))
  ]

  -- one that doesn't pass changes nothing
  pub position_from-other : (from : ℕ) (xs : List X) (x : X) → test x ≡ false → position_from test from (xs ++ x ∷ []) ≡ position_from test from xs
  position_from-other from [] x h = rw h refl
  position_from-other from (y ∷ xs) x h = elim (cases_Bool (test y)) [
    | inl k ↦ rw k refl
    | inr k ↦ rw k (position_from-other (from + 1) xs x h)
  ]

  -- the first that passes is at the end
  pub position_from-new : (from : ℕ) (xs : List X) (x : X) → list_any test xs ≡ false → test x ≡ true → position_from test from (xs ++ x ∷ []) ≡ Some (from + length xs)
  position_from-new from [] x h k = rw k (ap Some (omega arith))
  position_from-new from (y ∷ xs) x h k = elim (cases_Bool (test y)) [
    | inl p ↦ absurd (cc (rw p at h))
    | inr p ↦ rw p (position_from-new (from + 1) xs x (rw p at h) k ∙ ap Some (omega arith))
  ]

-- a table of places goes on with a text that is there, and with a new one
pub place_of-found : (texts : List (List ℕ)) (text q : List ℕ) → among texts text ≡ true → place_of (texts ++ text ∷ []) q ≡ place_of texts q
place_of-found texts text q h = elim (cases_Bool (bytes_eq text q)) [
  | inl k ↦ let same : text ≡ q = (bytes_eq-Decides text q).0 k in position_from-found (λ y. bytes_eq y q) 0 texts text (subst (λ (t : List ℕ). among texts t ≡ true) same h)
  | inr k ↦ position_from-other (λ y. bytes_eq y q) 0 texts text k
]

pub place_of-new : (texts : List (List ℕ)) (text : List ℕ) (place : Option ℕ) (q : List ℕ) → among texts text ≡ false → place ≡ place_of texts q → cond (bytes_eq text q) (Some (length texts)) place ≡ place_of (texts ++ text ∷ []) q
place_of-new texts text place q h is = elim (cases_Bool (bytes_eq text q)) [
  | inl k ↦
      let same : text ≡ q = (bytes_eq-Decides text q).0 k in
      rw k (ap Some (omega arith) ∙ sym (position_from-new (λ y. bytes_eq y q) 0 texts text (subst (λ (t : List ℕ). among texts t ≡ false) same h) k))
  | inr k ↦ rw k (is ∙ sym (position_from-other (λ y. bytes_eq y q) 0 texts text k))
]

-- ---- things by the places of their names

module _ {X Y : Type 0} (test : Y → Bool) (name : X → Y) where
  -- a place isn't before the first
  pub position_from-low : (from at : ℕ) (xs : List X) → position_from test from (map name xs) ≡ Some at → from ≤ at
  position_from-low from at [] h = absurd (cc)
  position_from-low from at (x ∷ xs) h = elim (cases_Bool (test (name x))) [
    | inl k ↦ let some : Some from ≡ Some at = rw k at h in let same : from ≡ at = cc in omega arith
    | inr k ↦ let low = position_from-low (from + 1) at xs (rw k at h) in omega arith
  ]

  -- the place of a name is that of the first thing with it
  pub find-none : (from : ℕ) (xs : List X) → position_from test from (map name xs) ≡ None → find (λ x. test (name x)) xs ≡ None
  find-none from [] h = refl
  find-none from (x ∷ xs) h = elim (cases_Bool (test (name x))) [
    | inl k ↦ absurd (cc (rw k at h))
    | inr k ↦ rw k (find-none (from + 1) xs (rw k at h))
  ]

  pub find-at : (from at place : ℕ) (xs : List X) → position_from test from (map name xs) ≡ Some at → at ≡ from + place → find (λ x. test (name x)) xs ≡ slice_get xs place
  find-at from at place [] h is = absurd (cc)
  find-at from at zero (x ∷ xs) h is = elim (cases_Bool (test (name x))) [
    | inl k ↦ rw k refl
    | inr k ↦ let low = position_from-low (from + 1) at xs (rw k at h) in absurd (omega arith)
  ]
  find-at from at (suc place) (x ∷ xs) h is = elim (cases_Bool (test (name x))) [
    | inl k ↦ let some : Some from ≡ Some at = rw k at h in let same : from ≡ at = cc in absurd (omega arith)
    | inr k ↦ rw k (find-at (from + 1) at place xs (rw k at h) (omega arith))
  ]

  -- a place among names is a place among things
  pub position_from-map : (from : ℕ) (xs : List X) → position_from test from (map name xs) ≡ position_from (λ x. test (name x)) from xs
  position_from-map from [] = refl
  position_from-map from (x ∷ xs) = ap (λ o. cond (test (name x)) (Some from) o) (position_from-map (from + 1) xs)
