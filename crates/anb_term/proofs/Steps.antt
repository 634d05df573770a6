-- Values of recipes taken apart and put together, step by step.
use Rattle.std.proofs.Common.{◌≡◌, ℕ, List, ◌∷◌, length, Bool, true, false, ◌&&◌, cond, Option, Some, None, refl}
use Rattle.std.specs.Prelude.{slice_get, option_and_then}
use Rattle.std.proofs.lemmas.Bool.{eq-eqb}
use Rattle.anb_term.specs.declared.term.Op.{Op}
use Rattle.anb_term.specs.Operator.{arity, keys}
use Rattle.anb_term.specs.Value.{Meaning, build_if, part_if, cons_both}

pub guarded : {X : Type 0} (a b : Bool) (x : Option X) (y : X) → cond (a && b) x None ≡ Some y → (a ≡ true) × (b ≡ true) × (x ≡ Some y)
guarded true true x y e = (refl, refl, e)
guarded true false x y e = cc
guarded false b x y e = cc

pub bound : {A B : Type 0} (f : A → Option B) (o : Option A) (t : B) → option_and_then f o ≡ Some t → (x : A) × (o ≡ Some x) × (f x ≡ Some t)
bound f None t e = cc
bound f (Some x) t e = (x, refl, e)

pub consed : {A : Type 0} (o : Option A) (os : Option (List A)) (ts : List A) → cons_both o os ≡ Some ts → (x : A) × (xs : List A) × (o ≡ Some x) × (os ≡ Some xs) × (ts ≡ x ∷ xs)
consed None os ts e = cc
consed (Some x) None ts e = cc
consed (Some x) (Some xs) ts e = (x, xs, refl, refl, cc)

pub build_is : {A : Type 0} (m : Meaning A) (o : Op) (bs : List A) → m.has o ≡ true → length bs ≡ arity o → build_if m o bs ≡ Some (m.built o bs)
build_is m o bs h n = rw (h, eq-eqb (length bs) (arity o) n) refl

pub part_is : {A : Type 0} (m : Meaning A) (o : Op) (j : ℕ) (ks qs : List A) (v b : A) → m.has o ≡ true → length ks ≡ keys o → m.undone o ks v ≡ Some qs → slice_get qs j ≡ Some b → part_if m o j ks v ≡ Some b
part_is m o j ks qs v b h n u e = rw (h, eq-eqb (length ks) (keys o) n, u) e
