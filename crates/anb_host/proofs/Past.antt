-- What one more event changes of a session's past.
use Rattle.std.proofs.Common.{◌≡◌, ℕ, List, [], ◌∷◌, ◌++◌, Bool, true, false, cond, not, ◌&&◌, ◌||◌, refl, sym, ap, ◌∙◌}
use Rattle.std.specs.Prelude.{◌==◌}
use Rattle.std.proofs.lemmas.List.Folds.{list_any-append}
use Rattle.std.proofs.lemmas.List.Elements.{filter-append}
use Rattle.anb_lemmas.proofs.Bools.{or_false, or_assoc}
use Rattle.anb_plays.specs.Plays.{Played}
use Rattle.anb_host.specs.declared.event.HostEvent.{HostEvent}
use Rattle.anb_host.specs.Own.{session_of, is_start, arrival_of, events_of, has_start, is_over, accepted_after, accepted}

pub has_start-last : (past : List HostEvent) (x : HostEvent) → has_start (past ++ x ∷ []) ≡ (has_start past || is_start x)
has_start-last past x = list_any-append is_start past (x ∷ []) ∙ ap (λ b. has_start past || b) (or_false (is_start x))

pub events_of-last : (s : ℕ) (past : List HostEvent) (x : HostEvent) → events_of s (past ++ x ∷ []) ≡ events_of s past ++ cond (session_of x == s) (x ∷ []) []
events_of-last s past x = filter-append (λ e. session_of e == s) past (x ∷ [])

module _ (play : List (List ℕ) → Played (List ℕ)) where
  abbrev if_accepted : Bool → List (List ℕ) → HostEvent → List (List ℕ)
  if_accepted b arrivals x = cond b (arrivals ++ arrival_of x) arrivals

  abbrev next : Bool → List (List ℕ) → HostEvent → List (List ℕ)
  next started arrivals x = if_accepted (started && not (is_over (play arrivals).end)) arrivals x

  after_last : (started : Bool) (arrivals : List (List ℕ)) (past : List HostEvent) (x : HostEvent)
      → accepted_after play started arrivals (past ++ x ∷ []) ≡ next (started || has_start past) (accepted_after play started arrivals past) x
  after_last started arrivals [] x = ap (λ b. next b arrivals x) (sym (or_false started))
  after_last started arrivals (e ∷ past) x =
      after_last (started || is_start e) (next started arrivals e) past x
      ∙ ap (λ b. next b (accepted_after play started arrivals (e ∷ past)) x) (or_assoc started (is_start e) (has_start past))

  -- an event is accepted where the session was started and isn't over
  pub accepted-last : (past : List HostEvent) (x : HostEvent) (b : Bool) → (has_start past && not (is_over (play (accepted play past)).end)) ≡ b
      → accepted play (past ++ x ∷ []) ≡ cond b (accepted play past ++ arrival_of x) (accepted play past)
  accepted-last past x b e = after_last false [] past x ∙ ap (λ c. if_accepted c (accepted play past) x) e

  -- before its start none are
  none_before : (past : List HostEvent) (arrivals : List (List ℕ)) → has_start past ≡ false → accepted_after play false arrivals past ≡ arrivals
  none_before [] arrivals h = refl
  none_before (e ∷ past) arrivals h = by (is_start e) h (none_before past arrivals) where
    by : (b : Bool) → (b || has_start past) ≡ false → (has_start past ≡ false → accepted_after play false arrivals past ≡ arrivals)
        → accepted_after play (false || b) arrivals past ≡ arrivals
    by true h f = cc
    by false h f = f h

  pub accepted-none : (past : List HostEvent) → has_start past ≡ false → accepted play past ≡ []
  accepted-none past h = none_before past [] h
