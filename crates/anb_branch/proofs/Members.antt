-- Items of lists, and roles by their names.
use Rattle.std.proofs.Common.{◌≡◌, ℕ, zero, suc, ◌+◌, ◌<◌, List, [], ◌∷◌, ◌++◌, length, Bool, true, false, cond, Option, Some, None, refl, subst, arith}
use Rattle.std.specs.Prelude.{slice_get, unwrap_or, ◌||◌}
use Rattle.std.specs.List.{AllByRecursion, AllZip, position_from}
use Rattle.std.specs.Str.{bytes_eq}
use Rattle.anb_index.specs.Places.{among}
use Rattle.anb_lemmas.proofs.Items.{bytes_are_one}
use Rattle.anb_lemmas.proofs.Options.{or_is_none}
use Rattle.anb_protocol.specs.Choices.{first, first_after}

pub zipped_at : {A B : Type 0} (R : A → B → Type 0) (xs : List A) (ys : List B) (i : ℕ) (x : A) (y : B) → AllZip R xs ys → slice_get xs i ≡ Some x → slice_get ys i ≡ Some y → R x y
zipped_at R [] [] i x y z a b = cc
zipped_at R [] (w ∷ ys) i x y z a b = absurd z
zipped_at R (v ∷ xs) [] i x y z a b = absurd z
zipped_at R (v ∷ xs) (w ∷ ys) zero x y z a b =
    let e : v ≡ x = cc in
    let f : w ≡ y = cc in
    let P : _ → Type 0 = λ u. R u y in
    subst P e (subst (R v) f z.0)
zipped_at R (v ∷ xs) (w ∷ ys) (suc i) x y z a b = zipped_at R xs ys i x y z.1 a b

pub zipped_there : {A B : Type 0} (R : A → B → Type 0) (xs : List A) (ys : List B) (i : ℕ) → AllZip R xs ys → i < length xs
    → (x : A) × (y : B) × (slice_get xs i ≡ Some x) × (slice_get ys i ≡ Some y) × R x y
zipped_there R [] ys i z h = absurd (omega (arith, h))
zipped_there R (v ∷ xs) [] i z h = absurd z
zipped_there R (v ∷ xs) (w ∷ ys) zero z h = (v, w, refl, refl, z.0)
zipped_there R (v ∷ xs) (w ∷ ys) (suc i) z h = zipped_there R xs ys i z.1 (omega (arith, h))

-- the place of an item is one of the list
pub place_within : {K : Type 0} (t : K → Bool) (i : ℕ) (xs : List K) (k : ℕ) → position_from t i xs ≡ Some k → k < i + length xs
place_within t i [] k e = cc
place_within t i (x ∷ xs) k e = by (t x) e (place_within t (i + 1) xs k) where
  by : (b : Bool) → cond b (Some i) (position_from t (i + 1) xs) ≡ Some k → (position_from t (i + 1) xs ≡ Some k → k < i + 1 + length xs) → k < i + length (x ∷ xs)
  by true is later = (let same : i ≡ k = cc in omega (arith, same))
  by false is later = omega (arith, later is)

pub chosen_within : {K : Type 0} (t : K → Bool) (xs : List K) → 0 < length xs → unwrap_or (position_from t 0 xs) 0 < length xs
chosen_within t xs some = by (position_from t 0 xs) refl where
  by : (o : Option ℕ) → position_from t 0 xs ≡ o → unwrap_or o 0 < length xs
  by None e = some
  by (Some k) e = omega (arith, place_within t 0 xs k e)

-- a name that stands among these has a place
pub named_place : (names : List (List ℕ)) (x : List ℕ) (i : ℕ) → among names x ≡ true → (k : ℕ) × (position_from (λ y. bytes_eq y x) i names ≡ Some k)
named_place [] x i is = cc
named_place (y ∷ names) x i is = by (bytes_eq y x) is (named_place names x (i + 1)) where
  by : (b : Bool) → (b || among names x) ≡ true → (among names x ≡ true → (k : ℕ) × (position_from (λ z. bytes_eq z x) (i + 1) names ≡ Some k))
      → (k : ℕ) × (cond b (Some i) (position_from (λ z. bytes_eq z x) (i + 1) names) ≡ Some k)
  by true e later = (i, refl)
  by false e later = later e

-- what holds of all names holds of one among them
pub of_among : (P : List ℕ → Type 0) (names : List (List ℕ)) (x : List ℕ) → among names x ≡ true → AllByRecursion P names → P x
of_among P [] x is all = cc
of_among P (y ∷ names) x is all = by (bytes_eq y x) refl is (λ h. of_among P names x h all.1) where
  by : (b : Bool) → bytes_eq y x ≡ b → (b || among names x) ≡ true → (among names x ≡ true → P x) → P x
  by true e h later = subst P (bytes_are_one y x e) all.0
  by false e h later = later h

none_each : {R : Type 0} (f : List ℕ → Option R) (names : List (List ℕ)) → first f names ≡ None → AllByRecursion (λ y. f y ≡ None) names
none_each f [] none = tt
none_each f (y ∷ names) none = (let h = or_is_none (f y) (first f names) none in (h.0, none_each f names h.1))

pub none_first : {R : Type 0} (f : List ℕ → Option R) (names : List (List ℕ)) (x : List ℕ) → first f names ≡ None → among names x ≡ true → f x ≡ None
none_first f names x none is = of_among (λ y. f y ≡ None) names x is (none_each f names none)

-- and nothing answers behind those before it
pub none_after : {X R : Type 0} (f : List X → X → Option R) (before xs : List X) (P : X → Type 0) → ((b : List X) (x : X) → f b x ≡ None → P x)
    → first_after f before xs ≡ None → AllByRecursion P xs
none_after f before [] P so none = tt
none_after f before (x ∷ xs) P so none =
    let h = or_is_none (f before x) (first_after f (before ++ x ∷ []) xs) none in
    (so before x h.0, none_after f (before ++ x ∷ []) xs P so h.1)
