-- What a host's sessions stand for after an event of one of them.
use Rattle.std.proofs.Common.{◌<◌, ◌≤◌, ◌≡◌, ℕ, zero, suc, List, [], ◌∷◌, ◌++◌, length, Bool, true, false, cond, Some, refl, sym, ap, ◌∙◌, subst}
use Rattle.std.specs.Prelude.{◌==◌, ◌≢◌, nat_lt, slice_get, slice_set, IfSome, Result, Ok, Err, OnOk}
use Rattle.std.proofs.lemmas.Bool.{eqb-true, eq-eqb, both_ways}
use Rattle.std.proofs.lemmas.List.{append-nil}
use Rattle.std.proofs.lemmas.Option.{slice_get_past, slice_get_within}
use Rattle.anb_lemmas.proofs.Lists.{set_gets, set_apart, set_long}
use Rattle.anb_plays.specs.Plays.{Played}
use Rattle.anb_host.specs.declared.event.HostEvent.{HostEvent}
use Rattle.anb_host.specs.declared.event.Notice.{Notice}
use Rattle.anb_host.specs.declared.event.Notice.TheVariants.{Refused}
use Rattle.anb_host.specs.declared.event.Cause.TheVariants as cause
use Rattle.anb_host.specs.declared.session.Session.{Session}
use Rattle.anb_host.specs.Own.{session_of, events_of, own, answer}
use Rattle.anb_host.specs.Hosts.{Stands}
use Rattle.anb_host.proofs.Past.{events_of-last}

pub set_twice : {A : Type 0} (xs : List A) (i : ℕ) (u v : A) → i < length xs → slice_get (slice_set (slice_set xs i u) i v) i ≡ Some v
set_twice xs i u v h = set_gets (slice_set xs i u) i v (subst (λ n. i < n) (sym (set_long xs i u)) h)

pub set_twice_apart : {A : Type 0} (xs : List A) (i j : ℕ) (u v : A) → j ≢ i → slice_get (slice_set (slice_set xs i u) i v) j ≡ slice_get xs j
set_twice_apart xs i j u v h = set_apart (slice_set xs i u) i j v h ∙ set_apart xs i j u h

-- what is taken out and put back
pub set_back : {A : Type 0} (xs : List A) (i : ℕ) (u v : A) → slice_get xs i ≡ Some v → slice_set (slice_set xs i u) i v ≡ xs
set_back [] i u v h = refl
set_back (x ∷ xs) zero u v h = let e : x ≡ v = cc in ap (λ y. y ∷ xs) (sym e)
set_back (x ∷ xs) (suc i) u v h = ap (λ l. x ∷ l) (set_back xs i u v h)

-- each session stands for its own events
abbrev pub Each : (ℕ → List (List ℕ) → Played (List ℕ)) → List Session → List HostEvent → Type 0
Each plays sessions events = (s : ℕ) → IfSome (slice_get sessions s) (Stands (plays s) (events_of s events))

module _ (plays : ℕ → List (List ℕ) → Played (List ℕ)) (sessions : List Session) (past : List HostEvent) (x : HostEvent) where
  -- an event is none of another session's
  others : (i : ℕ) → (session_of x == i) ≡ false → events_of i (past ++ x ∷ []) ≡ events_of i past
  others i e = events_of-last i past x ∙ ap (λ b. events_of i past ++ cond b (x ∷ []) []) e ∙ append-nil (events_of i past)

  its_own : events_of (session_of x) (past ++ x ∷ []) ≡ events_of (session_of x) past ++ x ∷ []
  its_own = events_of-last (session_of x) past x ∙ ap (λ b. events_of (session_of x) past ++ cond b (x ∷ []) []) (eq-eqb (session_of x) (session_of x) refl)

  -- the event's session stands for one more, and all others are as they were
  pub each_further : (u v : Session) → session_of x < length sessions → Stands (plays (session_of x)) (events_of (session_of x) past ++ x ∷ []) v
      → Each plays sessions past → Each plays (slice_set (slice_set sessions (session_of x) u) (session_of x) v) (past ++ x ∷ [])
  each_further u v within st all i = by (session_of x == i) refl where
    by : (b : Bool) → (session_of x == i) ≡ b
        → IfSome (slice_get (slice_set (slice_set sessions (session_of x) u) (session_of x) v) i) (Stands (plays i) (events_of i (past ++ x ∷ [])))
    by true e =
        let g : session_of x ≡ i = eqb-true (session_of x) i e in
        subst (λ j. IfSome (slice_get (slice_set (slice_set sessions (session_of x) u) (session_of x) v) j) (Stands (plays j) (events_of j (past ++ x ∷ [])))) g
        (subst (λ o. IfSome o (Stands (plays (session_of x)) (events_of (session_of x) (past ++ x ∷ [])))) (sym (set_twice sessions (session_of x) u v within))
        (subst (λ es. Stands (plays (session_of x)) es v) (sym its_own) st))
    by false e =
        subst (λ o. IfSome o (Stands (plays i) (events_of i (past ++ x ∷ [])))) (sym (set_twice_apart sessions (session_of x) i u v (λ g. both_ways (session_of x == i) e (eq-eqb (session_of x) i (sym g)))))
        (subst (λ es. IfSome (slice_get sessions i) (Stands (plays i) es)) (sym (others i e)) (all i))

  -- an event of no session
  pub each_same : length sessions ≤ session_of x → Each plays sessions past → Each plays sessions (past ++ x ∷ [])
  each_same beyond all i = by (session_of x == i) refl where
    by : (b : Bool) → (session_of x == i) ≡ b → IfSome (slice_get sessions i) (Stands (plays i) (events_of i (past ++ x ∷ [])))
    by true e =
        let g : session_of x ≡ i = eqb-true (session_of x) i e in
        subst (λ o. IfSome o (Stands (plays i) (events_of i (past ++ x ∷ [])))) (sym (slice_get_past sessions i (subst (λ n. length sessions ≤ n) g beyond))) tt
    by false e = subst (λ es. IfSome (slice_get sessions i) (Stands (plays i) es)) (sym (others i e)) (all i)

  pub beyond_range : nat_lt 1023 (session_of x) ≡ true → (told : List Notice) → told ≡ Refused (session_of x) cause.Range ∷ [] → told ≡ answer plays past x
  beyond_range high told e = rw high e

-- a session answered its event, was kept, and all stand for one event more
pub answered : (plays : ℕ → List (List ℕ) → Played (List ℕ)) (sessions : List Session) (x : HostEvent) (k : ℕ) (u session v : Session) (told : List Notice)
    → k ≡ session_of x → slice_get sessions k ≡ Some session
    → ((es : List HostEvent) → Stands (plays (session_of x)) es session → (told ≡ own (plays (session_of x)) (session_of x) es x) × Stands (plays (session_of x)) (es ++ x ∷ []) v)
    → (past : List HostEvent) → Each plays sessions past
    → (told ≡ answer plays past x) × Each plays (slice_set (slice_set sessions k u) k v) (past ++ x ∷ [])
answered plays sessions x k u session v told is there f past all =
    let at : slice_get sessions (session_of x) ≡ Some session = subst (λ i. slice_get sessions i ≡ Some session) is there in
    let st : Stands (plays (session_of x)) (events_of (session_of x) past) session = subst (λ o. IfSome o (Stands (plays (session_of x)) (events_of (session_of x) past))) at (all (session_of x)) in
    let g = f (events_of (session_of x) past) st in (
      g.0,
      subst (λ i. Each plays (slice_set (slice_set sessions i u) i v) (past ++ x ∷ [])) (sym is)
          (each_further plays sessions past x u v (slice_get_within sessions (session_of x) session at) g.1 all),
    )

pub on_ok_map : {T E : Type 0} {P Q : Type 0} (r : Result T E) → OnOk r P → (P → Q) → OnOk r Q
on_ok_map (Ok x) p f = f p
on_ok_map (Err e) p f = tt
