-- Results, case by case.
use Rattle.std.proofs.Common.{◌≡◌, List, Bool, true, false, Result, Ok, Err, refl, ap, inl, inr, ◌⊎◌}
use Rattle.std.specs.Prelude.{◌&&◌}
use Rattle.anb_read.specs.declared.refusal.ReadNo.{ReadNo}
use Rattle.anb_syntax.specs.Words.{Tok}
use Rattle.anb_read.specs.Productions.{◌>>=◌}
use Rattle.anb_read.proofs.Readers.{Again}

pub bind_ok : {A B : Type 0} (r : Result A ReadNo) (f : A → Result B ReadNo) (y : B) → (r >>= f) ≡ Ok y → (x : A) × (r ≡ Ok x) × (f x ≡ Ok y)
bind_ok (Ok x) f y e = (x, refl, e)
bind_ok (Err x) f y e = cc

pub bind_err : {A B : Type 0} (r : Result A ReadNo) (f : A → Result B ReadNo) (y : ReadNo) → (r >>= f) ≡ Err y → (r ≡ Err y) ⊎ ((x : A) × (r ≡ Ok x) × (f x ≡ Err y))
bind_err (Ok x) f y e = inr (x, refl, e)
bind_err (Err x) f y e = let h : x ≡ y = cc in inl (ap Err h)

-- reading one after the other
pub again_bind : {A B : Type 0} (fp fq : Bool) (out : Result (A × List Tok) ReadNo) (a : A) (m : List Tok) (k : A × List Tok → Result (B × List Tok) ReadNo) (b : B) (rest : List Tok)
    → Again fp out a m → Again fq (k (a, m)) b rest → Again (fp && fq) (out >>= k) b rest
again_bind true true out a m k b rest h i = rw h i
again_bind true false out a m k b rest h i = (i.0, rw h i.1)
again_bind false fq out a m k b rest h i = (h.0, rw h.1 refl)

pub bind_same : {A B : Type 0} (r : Result A ReadNo) (f g : A → Result B ReadNo) → ((x : A) → r ≡ Ok x → f x ≡ g x) → (r >>= f) ≡ (r >>= g)
bind_same (Ok x) f g h = h x refl
bind_same (Err e) f g h = refl
