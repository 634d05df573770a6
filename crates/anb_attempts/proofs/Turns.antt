-- Lists one further, and what holds of one item.
use Rattle.std.proofs.Common.{◌≡◌, ℕ, zero, suc, ◌+◌, ◌<◌, ◌≤◌, List, [], ◌∷◌, ◌++◌, length, map, take, get_or, Bool, false, IsTrue, Result, Ok, Err, IfOk, refl, sym, ap, subst, inl, inr, arith}
use Rattle.std.specs.List.{AllByRecursion}
use Rattle.anb_lemmas.proofs.Bools.{never_both}
use Rattle.anb_lemmas.proofs.Numbers.{below_or_not}
use Rattle.anb_term.specs.Tree.{Tree}
use Rattle.anb_term.specs.View.{tree_of}
use Rattle.anb_term.specs.declared.term.Term.{Term}

pub one_holds : (P : Tree → Type 0) (ts : List Term) (i : ℕ) (t : Term) → i < length ts → t ≡ get_or ts i t → AllByRecursion P (map tree_of ts) → P (tree_of t)
one_holds P [] i t h e all = absurd (omega arith)
one_holds P (y ∷ ys) zero t h e all = subst (λ x. P (tree_of x)) (sym e) all.0
one_holds P (y ∷ ys) (suc i) t h e all = one_holds P ys i t (omega arith) e all.1

pub taken_next : {A : Type 0} (xs : List A) (i : ℕ) (d : A) → i < length xs → take (i + 1) xs ≡ take i xs ++ get_or xs i d ∷ []
taken_next [] i d h = absurd (omega arith)
taken_next (y ∷ ys) zero d h = refl
taken_next (y ∷ ys) (suc i) d h = rw (after i) (ap (λ l. y ∷ l) (taken_next ys i d (omega arith))) where
  after : (k : ℕ) → suc k + 1 ≡ suc (k + 1)
  after k = omega arith

pub isnt_within : (b : Bool) (n m : ℕ) → (n ≤ m → IsTrue b) → b ≡ false → m < n
isnt_within b n m is isnt = elim (below_or_not m n) [
  | inl less ↦ less
  | inr most ↦ absurd (never_both b (is most) isnt)
]

pub if_three : {A E : Type 0} (r : Result A E) (P Q R S : A → Type 0) → IfOk r P → IfOk r Q → IfOk r R → ((x : A) → P x → Q x → R x → S x) → IfOk r S
if_three (Ok x) P Q R S p q s f = f x p q s
if_three (Err e) P Q R S p q s f = tt

pub if_one : {A E : Type 0} (r : Result A E) (P S : A → Type 0) → IfOk r P → ((x : A) → P x → S x) → IfOk r S
if_one (Ok x) P S p f = f x p
if_one (Err e) P S p f = tt
