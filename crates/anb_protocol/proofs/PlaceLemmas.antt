-- The first place of a thing.
use Rattle.std.proofs.Common.{◌≡◌, ℕ, suc, ◌+◌, ◌≤◌, List, [], ◌∷◌, length, ap, sym, ◌∙◌, arith, refl, Bool, true, false, cond, Option, Some, None}
use Rattle.std.specs.Prelude.{◌||◌, slice_get, IfSome, IfNone, unwrap_or}
use Rattle.std.specs.List.{list_any, position_from}
use Rattle.std.specs.Str.{bytes_eq}
use Rattle.std.proofs.lemmas.Slice.Eq.{bytes_eq-Decides}

abbrev Placed : {X : Type 0} → (X → Bool) → ℕ → List X → ℕ → Type 0
Placed {X} p k xs i = (j : ℕ) × (x : X) × (i ≡ k + j) × (slice_get xs j ≡ Some x) × (p x ≡ true)

some_step : {X : Type 0} (p : X → Bool) (k : ℕ) (x : X) (xs : List X) (i : ℕ) (b : Bool) → p x ≡ b → position_from p k (x ∷ xs) ≡ Some i
    → (position_from p (k + 1) xs ≡ Some i → Placed p (k + 1) xs i) → Placed p k (x ∷ xs) i
some_step p k x xs i true t e next =
    let h : Some k ≡ Some i = sym (ap (λ v. cond v (Some k) (position_from p (k + 1) xs)) t) ∙ e in
    let s : k ≡ i = cc in
    (0, x, omega arith, refl, t)
some_step p k x xs i false t e next =
    let f = next (sym (ap (λ v. cond v (Some k) (position_from p (k + 1) xs)) t) ∙ e) in
    (suc f.0, f.1, omega (arith, f.2), f.3, f.4)

pub place_some : {X : Type 0} (p : X → Bool) (k : ℕ) (xs : List X) (i : ℕ) → position_from p k xs ≡ Some i → Placed p k xs i
place_some p k [] i e = absurd (cc)
place_some p k (x ∷ xs) i e = some_step p k x xs i (p x) refl e (place_some p (k + 1) xs i)

none_step : {X : Type 0} (p : X → Bool) (k : ℕ) (x : X) (xs : List X) (b : Bool) → p x ≡ b → position_from p k (x ∷ xs) ≡ None
    → (position_from p (k + 1) xs ≡ None → list_any p xs ≡ false) → list_any p (x ∷ xs) ≡ false
none_step p k x xs true t e next = let h = sym (ap (λ v. cond v (Some k) (position_from p (k + 1) xs)) t) ∙ e in absurd (cc)
none_step p k x xs false t e next = ap (λ v. v || list_any p xs) t ∙ next (sym (ap (λ v. cond v (Some k) (position_from p (k + 1) xs)) t) ∙ e)

pub place_none : {X : Type 0} (p : X → Bool) (k : ℕ) (xs : List X) → position_from p k xs ≡ None → list_any p xs ≡ false
place_none p k [] e = refl
place_none p k (x ∷ xs) e = none_step p k x xs (p x) refl e (place_none p (k + 1) xs)

pub name_placed : (names : List (List ℕ)) (x : List ℕ) (r : Option ℕ) → r ≡ position_from (λ y. bytes_eq y x) 0 names → IfSome r (λ i. slice_get names i ≡ Some x)
name_placed names x None e = tt
name_placed names x (Some i) e =
    let f = place_some (λ y. bytes_eq y x) 0 names i (sym e) in
    let at : i ≡ f.0 = omega (arith, f.2) in
    let is : f.1 ≡ x = (bytes_eq-Decides f.1 x).0 f.4 in
    ap (slice_get names) at ∙ f.3 ∙ ap (λ y. Some y) is

pub name_absent : (names : List (List ℕ)) (x : List ℕ) (r : Option ℕ) → r ≡ position_from (λ y. bytes_eq y x) 0 names → IfNone r (list_any (λ y. bytes_eq y x) names ≡ false)
name_absent names x None e = place_none (λ y. bytes_eq y x) 0 names (sym e)
name_absent names x (Some i) e = tt

low_step : {X : Type 0} (p : X → Bool) (k : ℕ) (xs : List X) (x : X) (b : Bool) → p x ≡ b → unwrap_or (position_from p (k + 1) xs) 0 ≤ (k + 1) + length xs
    → unwrap_or (position_from p k (x ∷ xs)) 0 ≤ k + length (x ∷ xs)
low_step p k xs x true e low = let is : unwrap_or (position_from p k (x ∷ xs)) 0 ≡ k = ap (λ v. unwrap_or (cond v (Some k) (position_from p (k + 1) xs)) 0) e in omega (arith, is)
low_step p k xs x false e low = let is : unwrap_or (position_from p k (x ∷ xs)) 0 ≡ unwrap_or (position_from p (k + 1) xs) 0 = ap (λ v. unwrap_or (cond v (Some k) (position_from p (k + 1) xs)) 0) e in omega (arith, is, low)

pub place_low : {X : Type 0} (p : X → Bool) (k : ℕ) (xs : List X) → unwrap_or (position_from p k xs) 0 ≤ k + length xs
place_low p k [] = omega arith
place_low p k (x ∷ xs) = low_step p k xs x (p x) refl (place_low p (k + 1) xs)
