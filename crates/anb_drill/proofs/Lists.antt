-- Lists of which each item passes a check.
use Rattle.std.proofs.Common.{◌≡◌, ℕ, zero, suc, ◌+◌, ◌<◌, ◌≤◌, List, [], ◌∷◌, ◌++◌, length, map, Bool, true, false, cond, Option, Some, None, refl, ap, ◌∙◌, arith}
use Rattle.std.specs.Prelude.{◌≢◌}
use Rattle.std.specs.Option.{option_or}
use Rattle.std.specs.List.{AllByRecursion, flat_map, position_from, range_with_len}
use Rattle.std.specs.Str.{bytes_eq}
use Rattle.anb_index.specs.Places.{among}
use Rattle.anb_lemmas.proofs.Each.{each_in_both}
use Rattle.anb_lemmas.proofs.Items.{bytes_differ}
use Rattle.anb_protocol.specs.declared.refusals.ResolveNo.TheVariants.{Twice}
use Rattle.anb_protocol.specs.Choices.{refuse_if, first, first_after}
use Rattle.anb_protocol.specs.Checks.{twice_among}
use Rattle.anb_protocol.proofs.Afters.{any-append}
use Rattle.anb_protocol.proofs.Distinct.{AllApart}

-- what holds of f at each number of a range holds of each value
pub over_from : {X : Type 0} (P : X → Type 0) (f : ℕ → X) (a n : ℕ) → ((i : ℕ) → a ≤ i → i < a + n → P (f i)) → AllByRecursion P (map f (range_with_len a n))
over_from P f a zero h = tt
over_from P f a (suc n) h = (h a (omega arith) (omega arith), over_from P f (a + 1) n (λ i from to. h i (omega (arith, from)) (omega (arith, to))))

pub over_flat : {X Y : Type 0} (P : Y → Type 0) (f : X → List Y) (xs : List X) → AllByRecursion (λ x. AllByRecursion P (f x)) xs → AllByRecursion P (flat_map f xs)
over_flat P f [] all = tt
over_flat P f (x ∷ xs) all = each_in_both P (f x) (flat_map f xs) all.0 (over_flat P f xs all.1)

pub none_first : {X R : Type 0} (f : X → Option R) (xs : List X) → AllByRecursion (λ x. f x ≡ None) xs → first f xs ≡ None
none_first f [] all = refl
none_first f (x ∷ xs) all = ap (λ o. option_or o (first f xs)) all.0 ∙ none_first f xs all.1

-- where it depends on the things before
pub none_first_after : {X R : Type 0} (f : List X → X → Option R) (before xs : List X) → AllByRecursion (λ x. (others : List X) → f others x ≡ None) xs → first_after f before xs ≡ None
none_first_after f before [] all = refl
none_first_after f before (x ∷ xs) all = ap (λ o. option_or o (first_after f (before ++ x ∷ []) xs)) (all.0 before) ∙ none_first_after f (before ++ x ∷ []) xs all.1

-- names that all differ are declared once
more_other : (before : List (List ℕ)) (x y : List ℕ) → among before y ≡ false → x ≢ y → among (before ++ x ∷ []) y ≡ false
more_other before x y e other = any-append (λ z. bytes_eq z y) before (x ∷ []) ∙ rw (e, bytes_differ x y other) refl

still_other : (before : List (List ℕ)) (x : List ℕ) (ys : List (List ℕ)) → AllByRecursion (λ y. among before y ≡ false) ys → AllByRecursion (λ y. x ≢ y) ys → AllByRecursion (λ y. among (before ++ x ∷ []) y ≡ false) ys
still_other before x [] all other = tt
still_other before x (y ∷ ys) all other = (more_other before x y all.0 other.0, still_other before x ys all.1 other.1)

none_twice_after : (before xs : List (List ℕ)) → AllByRecursion (λ x. among before x ≡ false) xs → AllApart xs → first_after (λ others (x : List ℕ). refuse_if (among others x) (Twice x)) before xs ≡ None
none_twice_after before [] all apart = refl
none_twice_after before (x ∷ xs) all apart =
    ap (λ b. option_or (cond b (Some (Twice x)) None) (first_after (λ others (y : List ℕ). refuse_if (among others y) (Twice y)) (before ++ x ∷ []) xs)) all.0
    ∙ none_twice_after (before ++ x ∷ []) xs (still_other before x xs all.1 apart.0) apart.1

all_new : (xs : List (List ℕ)) → AllByRecursion (λ x. among [] x ≡ false) xs
all_new [] = tt
all_new (x ∷ xs) = (refl, all_new xs)

pub none_twice : (xs : List (List ℕ)) → AllApart xs → twice_among xs ≡ None
none_twice xs apart = none_twice_after [] xs (all_new xs) apart

-- ---- places

pub not_here : {X : Type 0} (t : X → Bool) (k : ℕ) (xs ys : List X) → AllByRecursion (λ x. t x ≡ false) xs → position_from t k (xs ++ ys) ≡ position_from t (k + length xs) ys
not_here t k [] ys all = let e : k ≡ k + 0 = omega arith in ap (λ i. position_from t i ys) e
not_here t k (x ∷ xs) ys all =
    let e : k + 1 + length xs ≡ k + suc (length xs) = omega arith in
    ap (λ b. cond b (Some k) (position_from t (k + 1) (xs ++ ys))) all.0 ∙ not_here t (k + 1) xs ys all.1 ∙ ap (λ i. position_from t i ys) e

pub here : {X : Type 0} (t : X → Bool) (k : ℕ) (x : X) (ys : List X) → t x ≡ true → position_from t k (x ∷ ys) ≡ Some k
here t k x ys e = ap (λ b. cond b (Some k) (position_from t (k + 1) ys)) e
