-- What holds of each item of a list, place by place.
use Rattle.std.proofs.Common.{◌≡◌, ◌<◌, ℕ, zero, suc, ◌+◌, List, [], ◌∷◌, ◌++◌, length, take, get_or, sym, ap, subst, arith, Some, map, refl}
use Rattle.std.specs.List.{All, AllByRecursion, AllZip}
use Rattle.std.proofs.lemmas.List.Elements.{All-append, All-from_recursion}
use Rattle.std.specs.Prelude.{slice_get}

pub each_in_both : {A : Type 0} (P : A → Type 0) (xs ys : List A) → AllByRecursion P xs → AllByRecursion P ys → AllByRecursion P (xs ++ ys)
each_in_both P [] ys p q = q
each_in_both P (x ∷ xs) ys p q = (p.0, each_in_both P xs ys p.1 q)

pub each_in_parts : {A : Type 0} (P : A → Type 0) (xs ys : List A) → AllByRecursion P (xs ++ ys) → AllByRecursion P xs × AllByRecursion P ys
each_in_parts P [] ys p = (tt, p)
each_in_parts P (x ∷ xs) ys p = let rest = each_in_parts P xs ys p.1 in ((p.0, rest.0), rest.1)

pub each_in_front : {A : Type 0} (P : A → Type 0) (xs ys : List A) → AllByRecursion P (xs ++ ys) → AllByRecursion P xs
each_in_front P xs ys p = (each_in_parts P xs ys p).0

pub each_and_last : {A : Type 0} (P : A → Type 0) (xs : List A) (x : A) → AllByRecursion P xs → P x → AllByRecursion P (xs ++ x ∷ [])
each_and_last P xs x p q = each_in_both P xs (x ∷ []) p (q, tt)

pub zip_and_last : {A B : Type 0} (R : A → B → Type 0) (xs : List A) (ys : List B) (x : A) (y : B) → AllZip R xs ys → R x y → AllZip R (xs ++ x ∷ []) (ys ++ y ∷ [])
zip_and_last R [] [] x y all r = (r, tt)
zip_and_last R [] (b ∷ bs) x y all r = absurd all
zip_and_last R (a ∷ rest) [] x y all r = absurd all
zip_and_last R (a ∷ rest) (b ∷ bs) x y all r = (all.0, zip_and_last R rest bs x y all.1 r)

-- one item more of the front
pub take_next : {A : Type 0} (xs : List A) (i : ℕ) (x : A) → i < length xs → x ≡ get_or xs i x → take (i + 1) xs ≡ take i xs ++ x ∷ []
take_next [] i x h e = absurd (omega arith)
take_next (y ∷ ys) zero x h e = ap (λ z. z ∷ []) (sym e)
take_next (y ∷ ys) (suc i) x h e = rw (after i) (ap (λ l. y ∷ l) (take_next ys i x (omega arith) e)) where
  after : (k : ℕ) → suc k + 1 ≡ suc (k + 1)
  after k = omega arith

pub all_of_next : {A : Type 0} (P : A → Type 0) (xs : List A) (i : ℕ) (x : A) → i < length xs → x ≡ get_or xs i x → P x → All P (take i xs) → All P (take (i + 1) xs)
all_of_next P xs i x h e p all = subst (All P) (sym (take_next xs i x h e)) (All-append P (take i xs) (x ∷ []) all (All-from_recursion P (x ∷ []) (p, tt)))

pub each_got : {X : Type 0} (P : X → Type 0) (xs : List X) (i : ℕ) (x : X) → AllByRecursion P xs → slice_get xs i ≡ Some x → P x
each_got P [] i x all at = cc
each_got P (y ∷ xs) zero x all at = (let e : y ≡ x = cc in subst P e all.0)
each_got P (y ∷ xs) (suc i) x all at = each_got P xs i x all.1 at

pub each_at : {X : Type 0} (P : X → Type 0) (xs : List X) (i : ℕ) (d : X) → AllByRecursion P xs → i < length xs → P (get_or xs i d)
each_at P [] i d all below = absurd (omega (arith, below))
each_at P (x ∷ xs) zero d all below = all.0
each_at P (x ∷ xs) (suc i) d all below = each_at P xs i d all.1 (omega (arith, below))

pub each_holds : {X : Type 0} (P : X → Type 0) (xs : List X) (i : ℕ) (x : X) → i < length xs → x ≡ get_or xs i x → AllByRecursion P xs → P x
each_holds P [] i x h e all = absurd (omega arith)
each_holds P (y ∷ ys) zero x h e all = subst P (sym e) all.0
each_holds P (y ∷ ys) (suc i) x h e all = each_holds P ys i x (omega arith) e all.1

pub each_by : {X : Type 0} (P Q : X → Type 0) → ((x : X) → P x → Q x) → (xs : List X) → AllByRecursion P xs → AllByRecursion Q xs
each_by P Q f [] a = tt
each_by P Q f (x ∷ xs) a = (f x a.0, each_by P Q f xs a.1)

pub each_as : {A : Type 0} (P Q : A → Type 0) (xs : List A) → ((x : A) → P x → Q x) → AllByRecursion P xs → AllByRecursion Q xs
each_as P Q [] f all = tt
each_as P Q (x ∷ xs) f all = (f x all.0, each_as P Q xs f all.1)

pub each_of_map : {X Y : Type 0} (P : Y → Type 0) (f : X → Y) (xs : List X) → AllByRecursion (λ x. P (f x)) xs → AllByRecursion P (map f xs)
each_of_map P f [] a = tt
each_of_map P f (x ∷ xs) a = (a.0, each_of_map P f xs a.1)

pub each_from_got : {A : Type 0} (P : A → Type 0) (xs : List A) → ((i : ℕ) (x : A) → slice_get xs i ≡ Some x → P x) → AllByRecursion P xs
each_from_got P [] h = tt
each_from_got P (x ∷ xs) h = (h 0 x refl, each_from_got P xs (λ i. h (suc i)))
