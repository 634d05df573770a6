-- What a session is told in all.
use Rattle.std.proofs.Common.{◌≡◌, ℕ, ◌<◌, arith, List, [], ◌∷◌, ◌++◌, length, map, drop, Bool, true, false, cond, not, ◌&&◌, ◌||◌, refl, sym, ap, ◌∙◌, subst, append_assoc}
use Rattle.std.specs.Prelude.{◌==◌, nat_lt}
use Rattle.std.specs.List.{flat_map}
use Rattle.std.proofs.lemmas.Bool.{eqb-true}
use Rattle.std.proofs.lemmas.List.{append-nil, drop_at}
use Rattle.std.proofs.lemmas.Grind.{flat_map-append}
use Rattle.std.proofs.lemmas.List.Elements.{filter-append}
use Rattle.anb_plays.specs.Plays.{Played, End, stopped, waiting, done, Run}
use Rattle.anb_host.specs.declared.event.HostEvent.{HostEvent}
use Rattle.anb_host.specs.declared.event.HostEvent.TheVariants.{Start, Arrive, Oversize}
use Rattle.anb_host.specs.declared.event.Notice.{Notice}
use Rattle.anb_host.specs.declared.event.Notice.TheVariants.{Message, Stopped, Finished, Refused}
use Rattle.anb_host.specs.declared.event.Cause.{Cause}
use Rattle.anb_host.specs.declared.event.Cause.TheVariants as cause
use Rattle.anb_host.specs.Alone.{IsToldAlone, SendsOn, SessionsAreAlone, end_in, end_of, message_in, notices_to}
use Rattle.anb_host.specs.Own.{accepted, answer, arrival_of, end_notices, events_of, has_start, is_over, is_start, notices, own, sent_in, session_of, session_told, told}
use Rattle.anb_host.proofs.Isolation.{events_of-same, isolated}
use Rattle.anb_host.proofs.Past.{accepted-last, accepted-none, events_of-last, has_start-last}
use Rattle.anb_host.proofs.Responding.{is_low}

-- the messages and the end of a play's notices
messages_of : (s : ℕ) (sent : List (List ℕ)) (e : End) → flat_map message_in (notices s sent e) ≡ sent
messages_of s [] (stopped e at) = refl
messages_of s [] (waiting e) = refl
messages_of s [] done = refl
messages_of s (m ∷ sent) e = ap (λ l. m ∷ l) (messages_of s sent e)

ends_of_notices : (s : ℕ) (sent : List (List ℕ)) (e : End) → flat_map end_in (notices s sent e) ≡ end_notices s e
ends_of_notices s [] (stopped e at) = refl
ends_of_notices s [] (waiting e) = refl
ends_of_notices s [] done = refl
ends_of_notices s (m ∷ sent) e = ends_of_notices s sent e

no_end : (s : ℕ) (e : End) → is_over e ≡ false → end_notices s e ≡ []
no_end s (stopped e at) never = absurd cc
no_end s (waiting e) is = refl
no_end s done never = absurd cc

-- what a session has sent and how it has ended, after one event more
module _ (play : Run) (grows : SendsOn play) (s : ℕ) (small : nat_lt 1023 s ≡ false) where
  abbrev Sends : List HostEvent → List Notice → List HostEvent → Type 0
  Sends past ns next = sent_in play past ++ flat_map message_in ns ≡ sent_in play next

  abbrev Ends : List HostEvent → List Notice → List HostEvent → Type 0
  Ends past ns next = end_of play s past ++ flat_map end_in ns ≡ end_of play s next

  sent_at : (past : List HostEvent) (arrivals : List (List ℕ)) → has_start past ≡ true → accepted play past ≡ arrivals → sent_in play past ≡ (play arrivals).sent
  sent_at past arrivals h a = ap (λ b. cond b (play (accepted play past)).sent []) h ∙ ap (λ xs. (play xs).sent) a

  end_at : (past : List HostEvent) (arrivals : List (List ℕ)) → has_start past ≡ true → accepted play past ≡ arrivals → end_of play s past ≡ end_notices s (play arrivals).end
  end_at past arrivals h a = ap (λ b. cond b (end_notices s (play (accepted play past)).end) []) h ∙ ap (λ xs. end_notices s (play xs).end) a

  sent_same : (past next : List HostEvent) → has_start next ≡ has_start past → accepted play next ≡ accepted play past → sent_in play past ≡ sent_in play next
  sent_same past next h a = ap (λ xs. cond (has_start past) (play xs).sent []) (sym a) ∙ ap (λ b. cond b (play (accepted play next)).sent []) (sym h)

  end_same : (past next : List HostEvent) → has_start next ≡ has_start past → accepted play next ≡ accepted play past → end_of play s past ≡ end_of play s next
  end_same past next h a = ap (λ xs. cond (has_start past) (end_notices s (play xs).end) []) (sym a) ∙ ap (λ b. cond b (end_notices s (play (accepted play next)).end) []) (sym h)

  -- a refused event adds nothing
  refused : (past next : List HostEvent) (ns : List Notice) (why : Cause) → ns ≡ Refused s why ∷ [] → has_start next ≡ has_start past → accepted play next ≡ accepted play past
      → Sends past ns next × Ends past ns next
  refused past next ns why o h a = (
    ap (λ l. sent_in play past ++ flat_map message_in l) o ∙ append-nil (sent_in play past) ∙ sent_same past next h a,
    ap (λ l. end_of play s past ++ flat_map end_in l) o ∙ append-nil (end_of play s past) ∙ end_same past next h a,
  )

  or_no : (b : Bool) → (b || false) ≡ b
  or_no true = refl
  or_no false = refl

  unstarted : (past : List HostEvent) (x : HostEvent) → is_start x ≡ false → has_start (past ++ x ∷ []) ≡ has_start past
  unstarted past x other = has_start-last past x ∙ rw other (or_no (has_start past))

  quiet : (past : List HostEvent) (x : HostEvent) → arrival_of x ≡ [] → accepted play (past ++ x ∷ []) ≡ accepted play past
  quiet past x none = accepted-last play past x _ refl ∙ by (has_start past && not (is_over (play (accepted play past)).end)) where
    by : (b : Bool) → cond b (accepted play past ++ arrival_of x) (accepted play past) ≡ accepted play past
    by true = rw none (append-nil (accepted play past))
    by false = refl

  started : (past : List HostEvent) (t : ℕ) (b : Bool) → has_start past ≡ b → Sends past (own play s past (Start t)) (past ++ Start t ∷ []) × Ends past (own play s past (Start t)) (past ++ Start t ∷ [])
  started past t true h = refused past (past ++ Start t ∷ []) (own play s past (Start t)) cause.Started (rw (small, h) refl) (has_start-last past (Start t) ∙ rw h refl) (quiet past (Start t) refl)
  started past t false h =
      let none : accepted play past ≡ [] = accepted-none play past h in
      let o : own play s past (Start t) ≡ notices s (play []).sent (play []).end = rw (small, h, none) refl in
      let a : accepted play (past ++ Start t ∷ []) ≡ [] = quiet past (Start t) refl ∙ none in
      let on : has_start (past ++ Start t ∷ []) ≡ true = has_start-last past (Start t) ∙ rw h refl in (
        ap (λ l. sent_in play past ++ flat_map message_in l) o ∙ ap (λ l. sent_in play past ++ l) (messages_of s (play []).sent (play []).end)
            ∙ ap (λ b. cond b (play (accepted play past)).sent [] ++ (play []).sent) h ∙ sym (sent_at (past ++ Start t ∷ []) [] on a),
        ap (λ l. end_of play s past ++ flat_map end_in l) o ∙ ap (λ l. end_of play s past ++ l) (ends_of_notices s (play []).sent (play []).end)
            ∙ ap (λ b. cond b (end_notices s (play (accepted play past)).end) [] ++ end_notices s (play []).end) h ∙ sym (end_at (past ++ Start t ∷ []) [] on a),
      )

  arrived : (past : List HostEvent) (t : ℕ) (y : List ℕ) (b over : Bool) → has_start past ≡ b → is_over (play (accepted play past)).end ≡ over
      → Sends past (own play s past (Arrive t y)) (past ++ Arrive t y ∷ []) × Ends past (own play s past (Arrive t y)) (past ++ Arrive t y ∷ [])
  arrived past t y false over h e =
      refused past (past ++ Arrive t y ∷ []) (own play s past (Arrive t y)) cause.NotStarted (rw (small, h) refl) (unstarted past (Arrive t y) refl) (accepted-last play past (Arrive t y) false (rw h refl))
  arrived past t y true true h e =
      refused past (past ++ Arrive t y ∷ []) (own play s past (Arrive t y)) cause.Ended (rw (small, h, e) refl) (unstarted past (Arrive t y) refl) (accepted-last play past (Arrive t y) false (rw (h, e) refl))
  arrived past t y true false h e =
      let at = accepted play past in
      let first = (play at).sent in
      let now = play (at ++ y ∷ []) in
      let g = grows at (y ∷ []) in
      let o : own play s past (Arrive t y) ≡ notices s (drop (length first) now.sent) now.end = rw (small, h, e) refl in
      let more : drop (length first) now.sent ≡ g.0 = ap (drop (length first)) g.1 ∙ drop_at first g.0 (length first) refl in
      let a : accepted play (past ++ Arrive t y ∷ []) ≡ at ++ y ∷ [] = accepted-last play past (Arrive t y) true (rw (h, e) refl) in
      let on : has_start (past ++ Arrive t y ∷ []) ≡ true = has_start-last past (Arrive t y) ∙ rw h refl in (
        ap (λ l. sent_in play past ++ flat_map message_in l) o ∙ ap (λ l. sent_in play past ++ l) (messages_of s (drop (length first) now.sent) now.end ∙ more)
            ∙ ap (λ l. l ++ g.0) (sent_at past at h refl) ∙ sym g.1 ∙ sym (sent_at (past ++ Arrive t y ∷ []) (at ++ y ∷ []) on a),
        ap (λ l. end_of play s past ++ flat_map end_in l) o ∙ ap (λ l. end_of play s past ++ l) (ends_of_notices s (drop (length first) now.sent) now.end)
            ∙ ap (λ l. l ++ end_notices s now.end) (end_at past at h refl ∙ no_end s (play at).end e) ∙ sym (end_at (past ++ Arrive t y ∷ []) (at ++ y ∷ []) on a),
      )

  oversized : (past : List HostEvent) (t n : ℕ) (b over : Bool) → has_start past ≡ b → is_over (play (accepted play past)).end ≡ over
      → Sends past (own play s past (Oversize t n)) (past ++ Oversize t n ∷ []) × Ends past (own play s past (Oversize t n)) (past ++ Oversize t n ∷ [])
  oversized past t n false over h e =
      refused past (past ++ Oversize t n ∷ []) (own play s past (Oversize t n)) cause.NotStarted (rw (small, h) refl) (unstarted past (Oversize t n) refl) (quiet past (Oversize t n) refl)
  oversized past t n true true h e =
      refused past (past ++ Oversize t n ∷ []) (own play s past (Oversize t n)) cause.Ended (rw (small, h, e) refl) (unstarted past (Oversize t n) refl) (quiet past (Oversize t n) refl)
  oversized past t n true false h e =
      refused past (past ++ Oversize t n ∷ []) (own play s past (Oversize t n)) cause.Oversize (rw (small, h, e) refl) (unstarted past (Oversize t n) refl) (quiet past (Oversize t n) refl)

  pub adds : (past : List HostEvent) (x : HostEvent) → Sends past (own play s past x) (past ++ x ∷ []) × Ends past (own play s past x) (past ++ x ∷ [])
  adds past (Start t) = started past t (has_start past) refl
  adds past (Arrive t y) = arrived past t y (has_start past) (is_over (play (accepted play past)).end) refl refl
  adds past (Oversize t n) = oversized past t n (has_start past) (is_over (play (accepted play past)).end) refl refl

module _ (plays : ℕ → Run) (s : ℕ) (grows : SendsOn (plays s)) (small : nat_lt 1023 s ≡ false) where
  goes : (past events : List HostEvent)
      → (sent_in (plays s) (events_of s past) ++ flat_map message_in (told plays (events_of s past) (events_of s events)) ≡ sent_in (plays s) (events_of s (past ++ events)))
      × (end_of (plays s) s (events_of s past) ++ flat_map end_in (told plays (events_of s past) (events_of s events)) ≡ end_of (plays s) s (events_of s (past ++ events)))
  goes past [] = (
    append-nil (sent_in (plays s) (events_of s past)) ∙ ap (λ es. sent_in (plays s) (events_of s es)) (sym (append-nil past)),
    append-nil (end_of (plays s) s (events_of s past)) ∙ ap (λ es. end_of (plays s) s (events_of s es)) (sym (append-nil past)),
  )
  goes past (x ∷ events) = by (session_of x == s) refl (goes (past ++ x ∷ []) events) where
    whole : (past ++ x ∷ []) ++ events ≡ past ++ x ∷ events
    whole = append_assoc past (x ∷ []) events

    by : (b : Bool) → (session_of x == s) ≡ b
        → (sent_in (plays s) (events_of s (past ++ x ∷ [])) ++ flat_map message_in (told plays (events_of s (past ++ x ∷ [])) (events_of s events)) ≡ sent_in (plays s) (events_of s ((past ++ x ∷ []) ++ events)))
        × (end_of (plays s) s (events_of s (past ++ x ∷ [])) ++ flat_map end_in (told plays (events_of s (past ++ x ∷ [])) (events_of s events)) ≡ end_of (plays s) s (events_of s ((past ++ x ∷ []) ++ events)))
        → (sent_in (plays s) (events_of s past) ++ flat_map message_in (told plays (events_of s past) (cond b (x ∷ (events_of s events)) (events_of s events))) ≡ sent_in (plays s) (events_of s (past ++ x ∷ events)))
        × (end_of (plays s) s (events_of s past) ++ flat_map end_in (told plays (events_of s past) (cond b (x ∷ (events_of s events)) (events_of s events))) ≡ end_of (plays s) s (events_of s (past ++ x ∷ events)))
    by true e ih =
        let before : events_of s (past ++ x ∷ []) ≡ (events_of s past) ++ x ∷ [] = events_of-last s past x ∙ ap (λ c. (events_of s past) ++ cond c (x ∷ []) []) e in
        let is : session_of x ≡ s = eqb-true (session_of x) s e in
        let one : answer plays (events_of s past) x ≡ own (plays s) s (events_of s past) x =
        ap (λ t. own (plays t) t (events_of t (events_of s past)) x) is ∙ ap (λ es. own (plays s) s es x) (events_of-same s past) in
        let step = adds (plays s) grows s small (events_of s past) x in
        let rest = told plays ((events_of s past) ++ x ∷ []) (events_of s events) in (
          ap (λ l. sent_in (plays s) (events_of s past) ++ l) (flat_map-append message_in (answer plays (events_of s past) x) rest ∙ ap (λ l. flat_map message_in l ++ flat_map message_in rest) one)
              ∙ sym (append_assoc (sent_in (plays s) (events_of s past)) (flat_map message_in (own (plays s) s (events_of s past) x)) (flat_map message_in rest))
              ∙ ap (λ l. l ++ flat_map message_in rest) step.0
              ∙ ap (λ es. sent_in (plays s) es ++ flat_map message_in (told plays es (events_of s events))) (sym before) ∙ ih.0 ∙ ap (λ es. sent_in (plays s) (events_of s es)) whole,
          ap (λ l. end_of (plays s) s (events_of s past) ++ l) (flat_map-append end_in (answer plays (events_of s past) x) rest ∙ ap (λ l. flat_map end_in l ++ flat_map end_in rest) one)
              ∙ sym (append_assoc (end_of (plays s) s (events_of s past)) (flat_map end_in (own (plays s) s (events_of s past) x)) (flat_map end_in rest))
              ∙ ap (λ l. l ++ flat_map end_in rest) step.1
              ∙ ap (λ es. end_of (plays s) s es ++ flat_map end_in (told plays es (events_of s events))) (sym before) ∙ ih.1 ∙ ap (λ es. end_of (plays s) s (events_of s es)) whole,
        )
    by false e ih =
        let before : events_of s (past ++ x ∷ []) ≡ (events_of s past) = events_of-last s past x ∙ ap (λ c. (events_of s past) ++ cond c (x ∷ []) []) e ∙ append-nil (events_of s past) in (
          ap (λ es. sent_in (plays s) es ++ flat_map message_in (told plays es (events_of s events))) (sym before) ∙ ih.0 ∙ ap (λ es. sent_in (plays s) (events_of s es)) whole,
          ap (λ es. end_of (plays s) s es ++ flat_map end_in (told plays es (events_of s events))) (sym before) ∙ ih.1 ∙ ap (λ es. end_of (plays s) s (events_of s es)) whole,
        )

pub are_alone : SessionsAreAlone
are_alone plays s events below grows = record {
  sends = ap (flat_map message_in) (isolated plays s events) ∙ (goes plays s grows (is_low s below) [] events).0;
  ends = ap (flat_map end_in) (isolated plays s events) ∙ (goes plays s grows (is_low s below) [] events).1;
}
