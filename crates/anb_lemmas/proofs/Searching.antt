-- Whether something of a bounded size has a property is decided by trying all.
use Rattle.std.proofs.Common.{◌≡◌, ◌≤◌, ◌<◌, ◌⊎◌, ℕ, zero, suc, List, [], ◌∷◌, length, Bool, true, false, refl, sym, subst, inl, inr, arith}
use Rattle.std.specs.List.{AllByRecursion, flat_map}
use Rattle.std.specs.Str.{bytes_eq}
use Rattle.std.proofs.lemmas.Slice.Eq.{bytes_eq-Decides}
use Rattle.std.proofs.lemmas.List.{length-append}
use Rattle.std.proofs.lemmas.Bool.{cases_lt}

-- it holds, or it doesn't
abbrev pub Decided : Type 0 → Type 0
Decided X = X ⊎ (X → ⊥)

pub decided_as : {X Y : Type 0} → (X → Y) → (Y → X) → Decided X → Decided Y
decided_as f g (inl x) = inl (f x)
decided_as f g (inr none) = inr (λ y. none (g y))

pub three_decided : {X Y Z : Type 0} → Decided X → Decided Y → Decided Z → Decided (X × Y × Z)
three_decided (inl x) (inl y) (inl z) = inl (x, y, z)
three_decided (inl x) (inl y) (inr none) = inr (λ b. none b.2)
three_decided (inl x) (inr none) z = inr (λ b. none b.1)
three_decided (inr none) y z = inr (λ b. none b.0)

pub both_decided : {X Y : Type 0} → Decided X → Decided Y → Decided (X × Y)
both_decided (inl x) (inl y) = inl (x, y)
both_decided (inl x) (inr none) = inr (λ b. none b.1)
both_decided (inr none) y = inr (λ b. none b.0)

pub truth_decided : (b : Bool) → Decided (b ≡ true)
truth_decided true = inl refl
truth_decided false = inr (λ e. cc)

pub same_decided : (xs ys : List ℕ) → Decided (xs ≡ ys)
same_decided xs ys = decided_as (bytes_eq-Decides xs ys).0 (bytes_eq-Decides xs ys).1 (truth_decided (bytes_eq xs ys))

pub longer_decided : {A : Type 0} (xs : List A) → Decided (0 < length xs)
longer_decided [] = inr (λ h. omega (arith, h))
longer_decided (x ∷ xs) = inl (omega arith)

-- ---- numbers and lists of a bounded size

-- whether a number below another has the property
one_above : (n : ℕ) (P : ℕ → Type 0) → Decided (P n) → Decided ((i : ℕ) × (i < n) × P i) → Decided ((i : ℕ) × (i < suc n) × P i)
one_above n P (inl p) others = inl (n, omega arith, p)
one_above n P (inr none) others = decided_as (λ w. let h = w.1 in (w.0, omega (arith, h), w.2)) (λ w. (w.0, under w.0 w.1 w.2, w.2)) others where
  under : (i : ℕ) → i < suc n → P i → i < n
  under i h p = elim (cases_lt i n) [
    | inl less ↦ less
    | inr more ↦ let same : n ≡ i = omega (arith, h, more) in absurd (none (subst P (sym same) p))
  ]

pub below_decided : (n : ℕ) (P : ℕ → Type 0) → ((i : ℕ) → Decided (P i)) → Decided ((i : ℕ) × (i < n) × P i)
below_decided zero P each = inr (λ w. let h = w.1 in omega (arith, h))
below_decided (suc n) P each = one_above n P (each n) (below_decided n P each)

-- whether one of a kind has a property
abbrev pub Tries : {A : Type 0} → (A → Type 0) → Type 1
Tries {A} K = (P : A → Type 0) → ((a : A) → Decided (P a)) → Decided ((a : A) × K a × P a)

-- whether a list of so many of a kind has the property
module _ {A : Type 0} (K : A → Type 0) where
  abbrev pub SomeList : ℕ → (List A → Type 0) → Type 0
  SomeList n P = (xs : List A) × AllByRecursion K xs × (length xs ≤ n) × P xs

  nothing_more : (P : List A → Type 0) → Decided (P []) → Decided (SomeList 0 P)
  nothing_more P (inl p) = inl ([], tt, omega arith, p)
  nothing_more P (inr none) = inr (λ w. empty w.0 w.2 w.3) where
    empty : (xs : List A) → length xs ≤ 0 → P xs → ⊥
    empty [] h p = none p
    empty (x ∷ xs) h p = omega (arith, h)

  abbrev Longer : ℕ → (List A → Type 0) → Type 0
  Longer n P = (a : A) × K a × SomeList n (λ xs. P (a ∷ xs))

  or_longer : (n : ℕ) (P : List A → Type 0) → Decided (P []) → Decided (Longer n P) → Decided (SomeList (suc n) P)
  or_longer n P (inl p) longer = inl ([], tt, omega arith, p)
  or_longer n P (inr none) longer = decided_as (λ w. let h = w.2.2 in (w.0 ∷ w.2.0, (w.1, w.2.1), omega (arith, h), w.2.3)) (λ w. parts w.0 w.1 w.2 w.3) longer where
    parts : (xs : List A) → AllByRecursion K xs → length xs ≤ suc n → P xs → Longer n P
    parts [] all h p = absurd (none p)
    parts (x ∷ xs) all h p = (x, all.0, (xs, all.1, omega (arith, h), p))

  pub lists_decided : Tries K → (n : ℕ) (P : List A → Type 0) → ((xs : List A) → Decided (P xs)) → Decided (SomeList n P)
  lists_decided tries zero P each = nothing_more P (each [])
  lists_decided tries (suc n) P each =
      or_longer n P (each []) (tries (λ a. SomeList n (λ xs. P (a ∷ xs))) (λ a. lists_decided tries n (λ xs. P (a ∷ xs)) (λ xs. each (a ∷ xs))))

-- bytes, and lists of them
pub bytes_tried : Tries (λ (b : ℕ). b < 256)
bytes_tried P each = below_decided 256 P each

-- items that each have something aren't more than what they have
pub items_many : {A : Type 0} (f : A → List ℕ) (xs : List A) → ((x : A) → 0 < length (f x)) → length xs ≤ length (flat_map f xs)
items_many f [] some = omega arith
items_many f (x ∷ xs) some = let rest = items_many f xs some in omega (arith, rest, some x, length-append (f x) (flat_map f xs))
