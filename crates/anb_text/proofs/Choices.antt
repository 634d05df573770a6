-- What an `if`, or one step before another, gives.
use Rattle.std.proofs.Common.{◌≡◌, ◌⊎◌, inl, inr, ℕ, List, ◌∷◌, Bool, true, false, Option, Some, None, refl, sym, subst, cond}
use Rattle.std.specs.Prelude.{IfSome, IsSomeAnd, ◌==◌}
use Rattle.std.specs.Str.{bytes_eq}
use Rattle.std.proofs.lemmas.Bool.{eq-eqb}
use Rattle.std.proofs.lemmas.Slice.Eq.{bytes_eq-Decides}
use Rattle.anb_lemmas.proofs.Options.{guard_passed}
use Rattle.anb_text.specs.Reading.{◌>>=◌}

pub same_bytes : (a b : List ℕ) → bytes_eq a b ≡ true → b ≡ a
same_bytes a b h = sym ((bytes_eq-Decides a b).0 h)

-- what guard_passed a test, or what the rest gives
pub chosen : {A : Type 0} (test : Bool) (this other : Option A) (a : A) → cond test this other ≡ Some a → ((test ≡ true) × (this ≡ Some a)) ⊎ (other ≡ Some a)
chosen true this other a e = inl (refl, e)
chosen false this other a e = inr e

-- the first of two steps
pub record First {A B : Type 0} (first : Option A) (second : A → Option B) (b : B) : Type 0 where
  pub value : A
  pub is : first ≡ Some value
  pub then : second value ≡ Some b

pub bound : {A B : Type 0} (first : Option A) (second : A → Option B) (b : B) → (first >>= second) ≡ Some b → First first second b
bound None second b e = cc
bound (Some a) second b e = record { value = a; is = refl; then = e }

-- texts differ whose first bytes do
pub first_differs : (b c : ℕ) (x y : List ℕ) → (b == c) ≡ false → b ∷ x ≡ c ∷ y → ⊥
first_differs b c x y h e =
    let same : b ≡ c = cc in
    let test : (b == c) ≡ true = eq-eqb b c same in cc (test, h)

pub of_some : {A : Type 0} (P : A → Type 0) (o : Option A) (a : A) → o ≡ Some a → IfSome o P → P a
of_some P o a e h = subst (λ (x : Option _). IfSome x P) e h

pub of_some_and : {A : Type 0} (P : A → Type 0) (o : Option A) (a : A) → o ≡ Some a → IsSomeAnd o P → P a
of_some_and P o a e h = subst (λ (x : Option _). IsSomeAnd x P) e h
