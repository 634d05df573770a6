-- The run of a code that fits is the plan's play.
use Rattle.std.proofs.Common.{◌≡◌, ℕ, ◌+◌, List, [], ◌∷◌, ◌++◌, length, Bool, true, false, cond, IsTrue, Option, refl, sym, subst, inl, inr}
use Rattle.std.proofs.lemmas.List.Elements.{All-from_recursion, recursion_from_All}
use Rattle.anb_lemmas.proofs.Each.{each_in_both}
use Rattle.anb_term.specs.Tree.{Tree}
use Rattle.anb_term.specs.Value.{Meaning, label}
use Rattle.anb_term.specs.Lawful.{Lawful, AreValues}
use Rattle.anb_term.specs.Agree.{Agree}
use Rattle.anb_term.specs.Demand.{all_hold}
use Rattle.anb_term.specs.Statements.{NewAtomAgrees}
use Rattle.anb_term.proofs.Values.{Valued}
use Rattle.anb_term.proofs.Frames.{one_more, agree_before}
use Rattle.anb_term.proofs.Demands.{hold_both, all_hold_more, agree_all_hold}
use Rattle.anb_plays.specs.Plans.{Event, know, fresh, send, recv, IsFreshAfter}
use Rattle.anb_plays.specs.Plays.{Played, stopped, ends, Judge, Walk, Play, End, waiting, done}
use Rattle.anb_plays.specs.Codes.{Act, takes, draws, receives, sends, works, at_register, demands}
use Rattle.anb_plays.specs.Runs.{says_if, run_from, run, without_place, no_place}
use Rattle.anb_plays.specs.Fits.{Place, Along, after_take, after_label, after_work, start, AnySend, AnyWork, AnyBorder, SendsIt, IsSound, IsEnough}
use Rattle.anb_plays.specs.Statements.{RunsAsPlayed}
use Rattle.anb_plays.proofs.Growing.{still_agrees, is_given}
use Rattle.anb_plays.proofs.Plays.{plays_are_one}

module _ {A : Type 0} (m : Meaning A) (lawful : Lawful m) (new_atom : NewAtomAgrees m) (draw : ℕ → A) (drawn : (i : ℕ) → IsTrue (m.is_value (draw i))) where
  -- p comes of the events where the labels agree, and else is a stop
  Judged : List Event → List Tree → List A → ℕ → ℕ → List A → Played A → Type 0
  Judged es frame vs e i arrivals p = Judge m frame vs e arrivals p (Walk m draw es frame vs e i arrivals p)

  branch : (es : List Event) (frame : List Tree) (vs : List A) (e at i : ℕ) (arrivals : List A) (p : Played A) (b : Bool)
      → (b ≡ true → Judged es frame vs e i arrivals (without_place p)) → (b ≡ false → Agree m frame vs → ⊥)
      → Judged es frame vs e i arrivals (without_place (cond b p (ends (stopped e at) arrivals)))
  unfolding Judged
  branch es frame vs e at i arrivals p true f g = f refl
  branch es frame vs e at i arrivals p false f g = inr (g refl, refl)

  -- a new atom takes nothing from a judgement before it
  fresh_back : (frame : List Tree) (vs : List A) (t : Tree) (x : A) (e : ℕ) (arrivals : List A) (p : Played A) (W : Type 0) → length vs ≡ length frame
      → (Agree m frame vs → Agree m (frame ++ t ∷ []) (vs ++ x ∷ [])) → Judge m (frame ++ t ∷ []) (vs ++ x ∷ []) e arrivals p W → Judge m frame vs e arrivals p W
  fresh_back frame vs t x e arrivals p W long f (inl a) = inl (agree_before m frame (t ∷ []) vs (x ∷ []) long a.0, a.1)
  fresh_back frame vs t x e arrivals p W long f (inr a) = inr (λ g. a.0 (f g), a.1)

  walked : (frame : List Tree) (vs : List A) (e : ℕ) (arrivals : List A) (p : Played A) (W : Type 0) → Agree m frame vs → Judge m frame vs e arrivals p W → W
  walked frame vs e arrivals p W agree (inl a) = a.1
  walked frame vs e arrivals p W agree (inr a) = absurd (a.0 agree)

  more_values : (vs : List A) (x : A) → Valued m vs → IsTrue (m.is_value x) → Valued m (vs ++ x ∷ [])
  more_values vs x are vx = each_in_both (λ y. IsTrue (m.is_value y)) vs (x ∷ []) are (vx, tt)

  as_all : (vs : List A) → Valued m vs → AreValues m vs
  as_all vs are = All-from_recursion (λ y. IsTrue (m.is_value y)) vs are

  Sending : List Act → List Event → Place → Type 0
  Sending acts es s = Along (SendsIt m) AnyWork AnyBorder acts es s

  Soundly : List Act → List Event → Place → Type 0
  Soundly acts es s = Along AnySend (IsSound m) AnyBorder acts es s

  Enough : List Act → List Event → Place → Type 0
  Enough acts es s = Along AnySend AnyWork (IsEnough m) acts es s

  -- at every place: the run from there is what comes of the events that are left
  law : (acts : List Act) (es : List Event) (s : Place) (vs : List A) (e at i : ℕ) (arrivals : List A)
      → Sending acts es s → Soundly acts es s → Enough acts es s → IsFreshAfter s.frame es
      → length vs ≡ length s.frame → Valued m vs → Valued m arrivals → all_hold m vs s.asked ≡ true
      → Judged es s.frame vs e i arrivals (without_place (run_from m draw acts s.regs vs e at i arrivals))
  unfolding Judged Soundly Enough Sending
  law [] [] s vs e at i arrivals b c d new long vv va ok = inl (d vs long (as_all vs vv) ok, refl)
  law (works w ∷ acts) es s vs e at i arrivals b c d new long vv va ok =
      branch es s.frame vs e (at + 1) i arrivals _ (all_hold m vs (demands s.regs w))
      (λ holds. law acts es (after_work s w) vs e (at + 1) i arrivals b.1 c.1 d.1 new long vv va (hold_both m vs s.asked (demands s.regs w) ok holds))
      (λ fails agree. let holds = agree_all_hold m lawful s.frame vs agree vv (demands s.regs w) c.0 in cc)
  law (takes ∷ acts) (know t ∷ es) s vs e at i arrivals b c d new long vv va ok =
      law acts es (after_take s) vs e (at + 1) i arrivals b c d new long vv va ok
  law (draws ∷ acts) (fresh t ∷ es) s vs e at i arrivals b c d new long vv va ok =
      let ih = law acts es (after_label s t) (vs ++ draw i ∷ []) e (at + 1) (i + 1) arrivals b c d new.1 (one_more vs s.frame (draw i) t long)
      (more_values vs (draw i) vv (drawn i)) va (all_hold_more m vs (draw i ∷ []) s.asked ok) in
      let P : ℕ → Type 0 = λ n. Judged es (s.frame ++ t ∷ []) (vs ++ draw i ∷ []) e (i + 1) arrivals (without_place (run_from m draw acts (s.regs ++ label n ∷ []) (vs ++ draw i ∷ []) e (at + 1) (i + 1) arrivals)) in
      fresh_back s.frame vs t (draw i) e arrivals _ _ long (still_agrees m new_atom s.frame vs t (draw i) new.0.0 new.0.1 new.0.2 (as_all vs vv) (drawn i)) (subst P (sym long) ih)
  law (receives ∷ acts) (recv t ∷ es) s vs e at i [] b c d new long vv va ok = inl (d.0 vs long (as_all vs vv) ok, refl)
  law (receives ∷ acts) (recv t ∷ es) s vs e at i (x ∷ arrivals) b c d new long vv va ok =
      let ih = law acts es (after_label s t) (vs ++ x ∷ []) (e + 1) (at + 1) i arrivals b.1 c.1 d.1 new (one_more vs s.frame x t long)
      (more_values vs x vv va.0) va.1 (all_hold_more m vs (x ∷ []) s.asked ok) in
      let P : ℕ → Type 0 = λ n. Judged es (s.frame ++ t ∷ []) (vs ++ x ∷ []) (e + 1) i arrivals (without_place (run_from m draw acts (s.regs ++ label n ∷ []) (vs ++ x ∷ []) (e + 1) (at + 1) i arrivals)) in
      inl (d.0 vs long (as_all vs vv) ok, subst P (sym long) ih)
  law (sends n ∷ acts) (send t ∷ es) s vs e at i arrivals b c d new long vv va ok =
      let agree = d.0 vs long (as_all vs vv) ok in
      let ih = law acts es s vs (e + 1) (at + 1) i arrivals b.2 c.2 d.2 new long vv va ok in
      let r = at_register s.regs n in
      let rest = run_from m draw acts s.regs vs (e + 1) (at + 1) i arrivals in
      let g = agree.one r r t b.1 b.1 in
      let P : Option A → Type 0 = λ o. Judged (send t ∷ es) s.frame vs e i arrivals (without_place (says_if o rest)) in
      subst P (sym g.1) (inl (agree, (g.0, without_place rest, is_given m s.frame vs t r g.0 agree b.1 g.1, walked s.frame vs (e + 1) arrivals _ _ agree ih, refl)))
  law (act ∷ acts) es s vs e at j arrivals b c d new long vv va ok = absurd b
  law [] (v ∷ es) s vs e at i arrivals b c d new long vv va ok = absurd b

pub runs_as_played : {A : Type 0} (m : Meaning A) → Lawful m → NewAtomAgrees m → RunsAsPlayed m
unfolding Judged Soundly Enough Sending
runs_as_played m lawful new_atom draw code plan init arrivals fits new drawn vi va long =
    let h : Play m draw plan init arrivals (without_place (run m draw code init arrivals)) =
    law m lawful new_atom draw drawn code plan (start plan) init 0 0 0 arrivals fits.sends fits.sound fits.enough new long
    (recursion_from_All (λ y. IsTrue (m.is_value y)) init vi) (recursion_from_All (λ y. IsTrue (m.is_value y)) arrivals va) refl in
    (h, λ p q. plays_are_one m draw plan init arrivals p _ q h)

pub waiting_placeless : (x : End) (event : ℕ) → no_place x ≡ waiting event → x ≡ waiting event
waiting_placeless done event e = cc
waiting_placeless (stopped k at) event e = cc
waiting_placeless (waiting k) event e = e
