-- A plan has at most one play.
use Rattle.std.proofs.Common.{◌≡◌, ℕ, ◌+◌, List, [], ◌∷◌, ◌++◌, sym, ap, ◌∙◌, inl, inr, refl}
use Rattle.anb_term.specs.Tree.{Tree}
use Rattle.anb_term.specs.Value.{Meaning}
use Rattle.anb_term.specs.Agree.{Gives}
use Rattle.anb_plays.specs.Plans.{Event, know, fresh, send, recv, known}
use Rattle.anb_plays.specs.Plays.{Played, says, Judge, Walk}
use Rattle.anb_plays.specs.Statements.{PlaysAreOne}

module _ {A : Type 0} (m : Meaning A) where
  gives_one : (frame : List Tree) (vs : List A) (t : Tree) (b c : A) → Gives m frame vs t b → Gives m frame vs t c → b ≡ c
  gives_one frame vs t b c g h = let x = g.1 g.0.0 g.0.1 in let y = h.1 g.0.0 g.0.1 in cc

  judge_one : (frame : List Tree) (vs : List A) (e : ℕ) (arrivals : List A) (p q : Played A) (X Y : Type 0) → (X → Y → p ≡ q)
      → Judge m frame vs e arrivals p X → Judge m frame vs e arrivals q Y → p ≡ q
  judge_one frame vs e arrivals p q X Y f (inl x) (inl y) = f x.1 y.1
  judge_one frame vs e arrivals p q X Y f (inl x) (inr y) = absurd (y.0 x.0)
  judge_one frame vs e arrivals p q X Y f (inr x) (inl y) = absurd (x.0 y.0)
  judge_one frame vs e arrivals p q X Y f (inr x) (inr y) = x.1 ∙ sym y.1

  module _ (draw : ℕ → A) where
    walk_one : (es : List Event) (frame : List Tree) (vs : List A) (e i : ℕ) (arrivals : List A) (p q : Played A)
        → Walk m draw es frame vs e i arrivals p → Walk m draw es frame vs e i arrivals q → p ≡ q
    walk_one [] frame vs e i arrivals p q x y = x ∙ sym y
    walk_one (know t ∷ es) frame vs e i arrivals p q x y = walk_one es frame vs e i arrivals p q x y
    walk_one (fresh t ∷ es) frame vs e i arrivals p q x y = walk_one es _ _ e (i + 1) arrivals p q x y
    walk_one (send t ∷ es) frame vs e i arrivals p q x y =
        let same = gives_one frame vs t x.0 y.0 x.2 y.2 in
        let rest = walk_one es frame vs (e + 1) i arrivals x.1 y.1 x.3 y.3 in
        x.4 ∙ ap (λ b. says b x.1) same ∙ ap (says y.0) rest ∙ sym y.4
    walk_one (recv t ∷ es) frame vs e i [] p q x y = x ∙ sym y
    walk_one (recv t ∷ es) frame vs e i (a ∷ arrivals) p q x y =
        judge_one (frame ++ t ∷ []) (vs ++ a ∷ []) (e + 1) arrivals p q _ _ (walk_one es (frame ++ t ∷ []) (vs ++ a ∷ []) (e + 1) i arrivals p q) x y

  pub plays_are_one : PlaysAreOne m
  plays_are_one draw plan init arrivals p q x y =
      judge_one (known plan) init 0 arrivals p q _ _ (walk_one draw plan (known plan) init 0 0 arrivals p q) x y

pub known-append : (xs ys : List Event) → known (xs ++ ys) ≡ known xs ++ known ys
known-append [] ys = refl
known-append (know t ∷ xs) ys = ap (λ l. t ∷ l) (known-append xs ys)
known-append (fresh t ∷ xs) ys = known-append xs ys
known-append (send t ∷ xs) ys = known-append xs ys
known-append (recv t ∷ xs) ys = known-append xs ys
