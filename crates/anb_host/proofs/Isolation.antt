-- Each session is told what it would be told alone.
use Rattle.std.proofs.Common.{◌≡◌, ℕ, List, [], ◌∷◌, ◌++◌, Bool, true, false, cond, not, ◌&&◌, refl, sym, ap, ◌∙◌, subst}
use Rattle.std.specs.Prelude.{◌==◌, nat_lt, filter}
use Rattle.std.proofs.lemmas.Bool.{eqb-true}
use Rattle.std.proofs.lemmas.List.{append-nil}
use Rattle.std.proofs.lemmas.List.Elements.{filter-append}
use Rattle.anb_plays.specs.Plays.{Played, End, stopped, waiting, done}
use Rattle.anb_host.specs.declared.event.HostEvent.{HostEvent}
use Rattle.anb_host.specs.declared.event.Notice.{Notice}
use Rattle.anb_host.specs.declared.event.Notice.TheVariants.{Message, Stopped, Finished, Refused}
use Rattle.anb_host.specs.declared.event.Cause.{Cause}
use Rattle.anb_host.specs.declared.event.Cause.TheVariants as cause
use Rattle.anb_host.specs.Own.{session_of, session_told, events_of, notices, end_notices, own, answer, told, has_start, has_ended, is_start, is_oversize}
use Rattle.anb_host.proofs.Past.{events_of-last}

abbrev for : ℕ → List Notice → List Notice
for s notices = filter (λ n. session_told n == s) notices

-- all of these notices are for session s, so session t is told all of them or none
abbrev AllOrNone : (s t : ℕ) → List Notice → Type 0
AllOrNone s t ns = (b : Bool) → (s == t) ≡ b → for t ns ≡ cond b ns []

module _ (s t : ℕ) where
  choice : (b : Bool) (xs ys : List Notice) → AllOrNone s t xs → AllOrNone s t ys → AllOrNone s t (cond b xs ys)
  choice true xs ys p q = p
  choice false xs ys p q = q

  refusal : (why : Cause) → AllOrNone s t (Refused s why ∷ [])
  refusal why b e = ap (λ c. cond c (Refused s why ∷ []) []) e

  of_end : (x : End) → AllOrNone s t (end_notices s x)
  of_end (stopped e at) b is = ap (λ c. cond c (Stopped s e ∷ []) []) is
  of_end done b is = ap (λ c. cond c (Finished s ∷ []) []) is
  of_end (waiting e) true is = refl
  of_end (waiting e) false is = refl

  of_notices : (sent : List (List ℕ)) (x : End) → AllOrNone s t (notices s sent x)
  of_notices [] x b e = of_end x b e
  of_notices (m ∷ sent) x true e = rw e (ap (λ l. Message s m ∷ l) (of_notices sent x true e))
  of_notices (m ∷ sent) x false e = rw e (of_notices sent x false e)

  own_notices : (play : List (List ℕ) → Played (List ℕ)) (past : List HostEvent) (x : HostEvent) → AllOrNone s t (own play s past x)
  own_notices play past x =
      choice (nat_lt 1023 s) (Refused s cause.Range ∷ []) _ (refusal cause.Range)
      (choice (is_start x && has_start past) (Refused s cause.Started ∷ []) _ (refusal cause.Started)
      (choice (not (is_start x) && not (has_start past)) (Refused s cause.NotStarted ∷ []) _ (refusal cause.NotStarted)
      (choice (has_ended play past) (Refused s cause.Ended ∷ []) _ (refusal cause.Ended)
      (choice (is_oversize x) (Refused s cause.Oversize ∷ []) _ (refusal cause.Oversize) (of_notices _ _)))))

-- the events of a session among its own
pub events_of-same : (s : ℕ) (events : List HostEvent) → events_of s (events_of s events) ≡ events_of s events
events_of-same s [] = refl
events_of-same s (x ∷ events) = by (session_of x == s) refl (events_of-same s events) where
  by : (b : Bool) → (session_of x == s) ≡ b → events_of s (events_of s events) ≡ events_of s events
      → events_of s (cond b (x ∷ events_of s events) (events_of s events)) ≡ cond b (x ∷ events_of s events) (events_of s events)
  by true e ih = rw e (ap (λ l. x ∷ l) ih)
  by false e ih = ih

module _ (plays : ℕ → List (List ℕ) → Played (List ℕ)) (s : ℕ) where
  -- an event of the session is answered as among its own events
  same_answer : (past : List HostEvent) (x : HostEvent) → (session_of x == s) ≡ true → answer plays past x ≡ answer plays (events_of s past) x
  same_answer past x e =
      let is : session_of x ≡ s = eqb-true (session_of x) s e in
      ap (λ es. own (plays (session_of x)) (session_of x) es x)
      (subst (λ t. events_of (session_of x) past ≡ events_of (session_of x) (events_of t past)) is (sym (events_of-same (session_of x) past)))

  alone : (past events : List HostEvent) → for s (told plays past events) ≡ told plays (events_of s past) (events_of s events)
  alone past [] = refl
  alone past (x ∷ events) =
      filter-append (λ n. session_told n == s) (answer plays past x) (told plays (past ++ x ∷ []) events)
      ∙ by (session_of x == s) refl (own_notices (session_of x) s (plays (session_of x)) (events_of (session_of x) past) x) (alone (past ++ x ∷ []) events) where
        by : (b : Bool) → (session_of x == s) ≡ b → AllOrNone (session_of x) s (answer plays past x)
            → for s (told plays (past ++ x ∷ []) events) ≡ told plays (events_of s (past ++ x ∷ [])) (events_of s events)
            → for s (answer plays past x) ++ for s (told plays (past ++ x ∷ []) events) ≡ told plays (events_of s past) (cond b (x ∷ events_of s events) (events_of s events))
        by true e all ih =
            let before : events_of s (past ++ x ∷ []) ≡ events_of s past ++ x ∷ [] = events_of-last s past x ∙ ap (λ c. events_of s past ++ cond c (x ∷ []) []) e in
            ap (λ l. l ++ for s (told plays (past ++ x ∷ []) events)) (all true e ∙ same_answer past x e)
            ∙ ap (λ l. answer plays (events_of s past) x ++ l) (ih ∙ ap (λ es. told plays es (events_of s events)) before)
        by false e all ih =
            let before : events_of s (past ++ x ∷ []) ≡ events_of s past = events_of-last s past x ∙ ap (λ c. events_of s past ++ cond c (x ∷ []) []) e ∙ append-nil (events_of s past) in
            ap (λ l. l ++ for s (told plays (past ++ x ∷ []) events)) (all false e) ∙ ih ∙ ap (λ es. told plays es (events_of s events)) before

  pub isolated : (events : List HostEvent) → for s (told plays [] events) ≡ told plays [] (events_of s events)
  isolated events = alone [] events
