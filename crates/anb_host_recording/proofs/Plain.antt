-- Where the lines of all sessions can be read again, those of each can.
use Rattle.std.proofs.Common.{◌≡◌, ℕ, List, [], ◌∷◌, ◌++◌, Bool, true, false, cond, refl, sym, ap, ◌∙◌, subst, append-nil}
use Rattle.std.specs.Prelude.{◌==◌}
use Rattle.std.specs.List.{AllByRecursion}
use Rattle.std.proofs.lemmas.Bool.{eqb-true}
use Rattle.anb_plays.specs.Plays.{Run}
use Rattle.anb_recording.specs.Joining.{plain_joined}
use Rattle.anb_recording.specs.Lines.{IsPlain}
use Rattle.anb_transcript.specs.declared.transcript.TranscriptLine.{TranscriptLine}
use Rattle.anb_host.specs.declared.event.HostEvent.{HostEvent}
use Rattle.anb_host.specs.Own.{answer, events_of, own, session_of}
use Rattle.anb_host.proofs.Past.{events_of-last}
use Rattle.anb_host_recording.specs.Entries.{all_lines, lines_of}
use Rattle.anb_host_recording.specs.Sessions.{lines_after, session_lines}

first_plain : (xs ys : List TranscriptLine) → AllByRecursion IsPlain (xs ++ ys) → AllByRecursion IsPlain xs × AllByRecursion IsPlain ys
first_plain [] ys all = (tt, all)
first_plain (x ∷ xs) ys all = let rest = first_plain xs ys all.1 in ((all.0, rest.0), rest.1)

module _ (plays : ℕ → Run) (s : ℕ) where
  plain_after : (past events : List HostEvent) → AllByRecursion IsPlain (all_lines plays past events) → AllByRecursion IsPlain (lines_after (plays s) s (events_of s past) (events_of s events))
  plain_after past [] all = tt
  plain_after past (x ∷ events) all = by (plain_after (past ++ x ∷ []) events) (session_of x == s) refl where
    two : AllByRecursion IsPlain (lines_of x (answer plays past x)) × AllByRecursion IsPlain (all_lines plays (past ++ x ∷ []) events)
    two = first_plain (lines_of x (answer plays past x)) (all_lines plays (past ++ x ∷ []) events) all

    by : (AllByRecursion IsPlain (all_lines plays (past ++ x ∷ []) events) → AllByRecursion IsPlain (lines_after (plays s) s (events_of s (past ++ x ∷ [])) (events_of s events)))
        → (b : Bool) → (session_of x == s) ≡ b → AllByRecursion IsPlain (lines_after (plays s) s (events_of s past) (cond b (x ∷ events_of s events) (events_of s events)))
    by again true e =
        let mine : session_of x ≡ s = eqb-true (session_of x) s e in
        let past_is : events_of s (past ++ x ∷ []) ≡ events_of s past ++ x ∷ [] = events_of-last s past x ∙ ap (λ (b : Bool). events_of s past ++ cond b (x ∷ []) []) e in
        plain_joined (lines_of x (own (plays s) s (events_of s past) x)) (lines_after (plays s) s (events_of s past ++ x ∷ []) (events_of s events))
        (subst (λ (t : ℕ). AllByRecursion IsPlain (lines_of x (own (plays t) t (events_of t past) x))) mine two.0)
        (subst (λ (p : List HostEvent). AllByRecursion IsPlain (lines_after (plays s) s p (events_of s events))) past_is (again two.1))
    by again false e =
        let past_is : events_of s (past ++ x ∷ []) ≡ events_of s past = events_of-last s past x ∙ ap (λ (b : Bool). events_of s past ++ cond b (x ∷ []) []) e ∙ append-nil (events_of s past) in
        subst (λ (p : List HostEvent). AllByRecursion IsPlain (lines_after (plays s) s p (events_of s events))) past_is (again two.1)

  pub plain_session : (events : List HostEvent) → AllByRecursion IsPlain (all_lines plays [] events) → AllByRecursion IsPlain (session_lines (plays s) s (events_of s events))
  plain_session events all = plain_after [] events all
