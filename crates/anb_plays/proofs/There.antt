-- It can't be that a plan has no play, where what it sends has recipes.
use Rattle.std.proofs.Common.{ℕ, ◌+◌, List, [], ◌∷◌, ◌++◌, IsTrue, refl, inl, inr}
use Rattle.std.proofs.lemmas.List.Elements.{All-from_recursion, recursion_from_All}
use Rattle.anb_lemmas.proofs.Each.{each_in_both}
use Rattle.anb_term.specs.Tree.{Tree}
use Rattle.anb_term.specs.Value.{Meaning}
use Rattle.anb_term.specs.Agree.{Agree}
use Rattle.anb_term.specs.Statements.{NewAtomAgrees}
use Rattle.anb_term.proofs.Values.{Valued}
use Rattle.anb_plays.specs.Plans.{Event, know, fresh, send, recv, known, CanSend, IsFreshAfter}
use Rattle.anb_plays.specs.Plays.{Played, stopped, waiting, done, ends, says, Judge, Walk}
use Rattle.anb_plays.specs.Statements.{PlaysAreThere}
use Rattle.anb_plays.proofs.Growing.{still_agrees, is_given}

module _ {A : Type 0} (m : Meaning A) (new_atom : NewAtomAgrees m) (draw : ℕ → A) (drawn : (i : ℕ) → IsTrue (m.is_value (draw i))) where
  -- not none: where the labels agree there is one, so if there were none they wouldn't, and it would be a stop
  judged : (frame : List Tree) (vs : List A) (e : ℕ) (arrivals : List A) (W : Played A → Type 0) → (Agree m frame vs → ((p : Played A) → W p → ⊥) → ⊥)
      → ((p : Played A) → Judge m frame vs e arrivals p (W p) → ⊥) → ⊥
  judged frame vs e arrivals W f k = k (ends (stopped e 0) arrivals) (inr ((λ a. f a (λ p w. k p (inl (a, w)))), refl))

  one_more : (vs : List A) (x : A) → Valued m vs → IsTrue (m.is_value x) → Valued m (vs ++ x ∷ [])
  one_more vs x are vx = each_in_both (λ y. IsTrue (m.is_value y)) vs (x ∷ []) are (vx, tt)

  walks : (es : List Event) (frame : List Tree) (vs : List A) (e i : ℕ) (arrivals : List A) → CanSend m.has frame es → IsFreshAfter frame es → Valued m vs → Valued m arrivals
      → Agree m frame vs → ((p : Played A) → Walk m draw es frame vs e i arrivals p → ⊥) → ⊥
  walks [] frame vs e i arrivals can new vv va agree k = k (ends done arrivals) refl
  walks (know t ∷ es) frame vs e i arrivals can new vv va agree k = walks es frame vs e i arrivals can new vv va agree k
  walks (fresh t ∷ es) frame vs e i arrivals can new vv va agree k =
      walks es (frame ++ t ∷ []) (vs ++ draw i ∷ []) e (i + 1) arrivals can new.1 (one_more vs (draw i) vv (drawn i)) va
      (still_agrees m new_atom frame vs t (draw i) new.0.0 new.0.1 new.0.2 (All-from_recursion (λ y. IsTrue (m.is_value y)) vs vv) (drawn i) agree) k
  walks (send t ∷ es) frame vs e i arrivals can new vv va agree k =
      let g = agree.one can.0.0 can.0.0 t can.0.1 can.0.1 in
      walks es frame vs (e + 1) i arrivals can.1 new vv va agree (λ q w. k (says g.0 q) (g.0, q, is_given m frame vs t can.0.0 g.0 agree can.0.1 g.1, w, refl))
  walks (recv t ∷ es) frame vs e i [] can new vv va agree k = k (ends (waiting (e + 1)) []) refl
  walks (recv t ∷ es) frame vs e i (x ∷ arrivals) can new vv va agree k =
      judged (frame ++ t ∷ []) (vs ++ x ∷ []) (e + 1) arrivals (Walk m draw es (frame ++ t ∷ []) (vs ++ x ∷ []) (e + 1) i arrivals)
      (walks es (frame ++ t ∷ []) (vs ++ x ∷ []) (e + 1) i arrivals can new (one_more vs x vv va.0) va.1) k

pub plays_are_there : {A : Type 0} (m : Meaning A) → NewAtomAgrees m → PlaysAreThere m
plays_are_there m new_atom draw plan init arrivals can new drawn vi va =
    judged m new_atom draw drawn (known plan) init 0 arrivals (Walk m draw plan (known plan) init 0 0 arrivals)
    (walks m new_atom draw drawn plan (known plan) init 0 0 arrivals can new (recursion_from_All (λ y. IsTrue (m.is_value y)) init vi) (recursion_from_All (λ y. IsTrue (m.is_value y)) arrivals va))
