-- Lists whose things all differ.
use Rattle.std.proofs.Common.{◌≡◌, ℕ, zero, suc, ◌<◌, List, [], ◌∷◌, ◌++◌, length, map, ap, sym, ◌∙◌, arith, refl, Bool, true, false, Option, None}
use Rattle.std.specs.Prelude.{◌≢◌, ◌||◌, AllPairs, slice_get}
use Rattle.std.specs.Option.{option_map_or}
use Rattle.std.specs.List.{AllByRecursion, list_any}
use Rattle.std.proofs.lemmas.List.Elements.{All-from_recursion}
use Rattle.std.proofs.lemmas.List.Kept.{AllPairs-cons}
use Rattle.anb_lemmas.proofs.Options.{or_is_none}
use Rattle.anb_lemmas.proofs.Each.{each_in_parts, each_by, each_of_map}
use Rattle.anb_protocol.specs.Choices.{refuse_if, first_after}
use Rattle.anb_protocol.proofs.Afters.{any-append}
use Rattle.anb_protocol.proofs.Faultless.{refused_none, all_both}

-- each thing differs from all behind it
abbrev pub AllApart : {X : Type 0} → List X → Type 0
AllApart [] = Unit {0}
AllApart (x ∷ xs) = AllByRecursion (λ y. x ≢ y) xs × AllApart xs

-- where no thing is one of those before it, all differ
module _ {X R : Type 0} (same : X → X → Bool) (itself : (x : X) → same x x ≡ true) (refusal : X → R) where
  abbrev again : List X → X → Option R
  again before x = refuse_if (list_any (λ y. same y x) before) (refusal x)

  abbrev IsNew : List X → X → Type 0
  IsNew before x = list_any (λ y. same y x) before ≡ false

  neither : (a b : Bool) → (a || (b || false)) ≡ false → (a ≡ false) × (b ≡ false)
  neither false false e = (refl, refl)
  neither false true e = absurd (cc)
  neither true b e = absurd (cc)

  other : (x y : X) → same x y ≡ false → x ≢ y
  other x y e s = let t : same x y ≡ true = ap (same x) (sym s) ∙ itself x in cc

  behind : (before : List X) (x y : X) → IsNew (before ++ x ∷ []) y → IsNew before y × (x ≢ y)
  behind before x y e =
      let h = neither (list_any (λ z. same z y) before) (same x y) (sym (any-append (λ z. same z y) before (x ∷ [])) ∙ e) in
      (h.0, other x y h.1)

  both : (before xs : List X) → first_after again before xs ≡ None → AllByRecursion (IsNew before) xs × AllApart xs
  both before [] e = (tt, tt)
  both before (x ∷ xs) e =
      let h = or_is_none (again before x) (first_after again (before ++ x ∷ []) xs) e in
      let rest = both (before ++ x ∷ []) xs h.1 in
      let each = each_by (IsNew (before ++ x ∷ [])) (λ y. IsNew before y × (x ≢ y)) (λ y n. behind before x y n) xs rest.0 in (
        (refused_none _ (refusal x) h.0, each_by (λ y. IsNew before y × (x ≢ y)) (IsNew before) (λ y n. n.0) xs each),
        (each_by (λ y. IsNew before y × (x ≢ y)) (λ y. x ≢ y) (λ y n. n.1) xs each, rest.1),
      )

  pub apart_all : (xs : List X) → first_after again [] xs ≡ None → AllApart xs
  apart_all xs e = (both [] xs e).1

pub apart_parts : {X : Type 0} (xs ys : List X) → AllApart (xs ++ ys) → AllApart xs × AllApart ys
apart_parts [] ys a = (tt, a)
apart_parts (x ∷ xs) ys a = let rest = apart_parts xs ys a.1 in (((each_in_parts (λ y. x ≢ y) xs ys a.0).0, rest.0), rest.1)

-- what a function that tells things apart makes of things that differ
pub apart-map : {X Y : Type 0} (P : X → Type 0) (f : X → Y) → ((x y : X) → P x → P y → f x ≡ f y → x ≡ y) → (xs : List X) → AllByRecursion P xs → AllApart xs → AllApart (map f xs)
apart-map P f tells [] p a = tt
apart-map P f tells (x ∷ xs) p a =
    (each_of_map (λ y. f x ≢ y) f xs (each_by (λ y. P y × (x ≢ y)) (λ y. f x ≢ f y) (λ y h e. h.1 (tells x y p.0 h.0 e)) xs (all_both P (λ y. x ≢ y) xs p.1 a.0)), apart-map P f tells xs p.1 a.1)

pub all-unmap : {X Y : Type 0} (P : Y → Type 0) (f : X → Y) (xs : List X) → AllByRecursion P (map f xs) → AllByRecursion (λ x. P (f x)) xs
all-unmap P f [] a = tt
all-unmap P f (x ∷ xs) a = (a.0, all-unmap P f xs a.1)

pub pairs_by : {X Y : Type 0} (f : X → Y) (xs : List X) → AllApart (map f xs) → AllPairs (λ x y. f x ≢ f y) xs
pairs_by f [] a = λ i j d h l. absurd (omega arith)
pairs_by f (x ∷ xs) a = AllPairs-cons (λ x y. f x ≢ f y) x xs (All-from_recursion (λ y. f x ≢ f y) xs (all-unmap (λ y. f x ≢ y) f xs a.0)) (pairs_by f xs a.1)

pub pairs : {X : Type 0} (xs : List X) → AllApart xs → AllPairs (λ x y. x ≢ y) xs
pairs [] a = λ i j d h l. absurd (omega arith)
pairs (x ∷ xs) a = AllPairs-cons (λ x y. x ≢ y) x xs (All-from_recursion (λ y. x ≢ y) xs a.0) (pairs xs a.1)

-- what stands at one place by a name that is there once
module _ {X Y : Type 0} (f : X → Y) (other : Y) where
  abbrev named : List X → ℕ → Y
  named xs i = option_map_or f (slice_get xs i) other

  not_behind : (xs : List X) (y : Y) (i : ℕ) → i < length xs → AllByRecursion (λ z. y ≢ z) (map f xs) → y ≡ named xs i → ⊥
  not_behind [] y i h a e = absurd (omega arith)
  not_behind (x ∷ xs) y zero h a e = a.0 e
  not_behind (x ∷ xs) y (suc i) h a e = not_behind xs y i (omega arith) a.1 e

  pub one_place : (xs : List X) (i j : ℕ) → i < length xs → j < length xs → AllApart (map f xs) → named xs i ≡ named xs j → i ≡ j
  one_place [] i j h l a e = absurd (omega arith)
  one_place (x ∷ xs) zero zero h l a e = refl
  one_place (x ∷ xs) zero (suc j) h l a e = absurd (not_behind xs (f x) j (omega arith) a.0 e)
  one_place (x ∷ xs) (suc i) zero h l a e = absurd (not_behind xs (f x) i (omega arith) a.0 (sym e))
  one_place (x ∷ xs) (suc i) (suc j) h l a e = ap (λ n. suc n) (one_place xs i j (omega arith) (omega arith) a.1 e)
