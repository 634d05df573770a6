-- Options, and choices that give one.
use Rattle.std.proofs.Common.{◌≡◌, Option, Some, None, refl, Bool, true, false, ◌⊎◌, inl, inr, cond, IfSome}
use Rattle.std.specs.Option.{option_map, option_or}

pub none_mapped : {A B : Type 0} (f : A → B) (o : Option A) → option_map f o ≡ None → o ≡ None
none_mapped f None e = refl
none_mapped f (Some x) e = cc

pub mapped_from : {A B : Type 0} (f : A → B) (o : Option A) (y : B) → option_map f o ≡ Some y → (x : A) × (o ≡ Some x) × (f x ≡ y)
mapped_from f None y e = cc
mapped_from f (Some x) y e = (x, refl, cc)

pub side_taken : {A : Type 0} (b : Bool) (x y z : A) → cond b x y ≡ z → ((b ≡ true) × (x ≡ z)) ⊎ ((b ≡ false) × (y ≡ z))
side_taken true x y z e = inl (refl, e)
side_taken false x y z e = inr (refl, e)

pub guard_passed : {A : Type 0} (test : Bool) (this : Option A) (a : A) → cond test this None ≡ Some a → (test ≡ true) × (this ≡ Some a)
guard_passed true this a e = (refl, e)
guard_passed false this a e = cc

pub or_is_none : {R : Type 0} (o p : Option R) → option_or o p ≡ None → (o ≡ None) × (p ≡ None)
or_is_none None p e = (refl, e)
or_is_none (Some r) p e = cc

pub or_none : {A : Type 0} (o : Option A) → option_or o None ≡ o
or_none None = refl
or_none (Some x) = refl

pub if_some_any : {E : Type 0} (o : Option E) (P : Type 0) → P → IfSome o (λ x. P)
if_some_any None P h = tt
if_some_any (Some x) P h = h
