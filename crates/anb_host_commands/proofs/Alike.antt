-- Plays that differ in the instructions of stops alone are told to sessions alike.
use Rattle.std.proofs.Common.{◌≡◌, ℕ, ◌+◌, List, [], ◌∷◌, ◌++◌, length, map, drop, replicate, Bool, true, false, cond, not, ◌&&◌, ◌||◌, refl, sym, ap, ◌∙◌}
use Rattle.std.specs.Prelude.{◌==◌, nat_lt}
use Rattle.std.specs.List.{AllByRecursion, flat_map}
use Rattle.anb_base.specs.Bytes.{IsBytes}
use Rattle.anb_plays.specs.Plays.{Played, End, stopped, waiting, done, Run}
use Rattle.anb_plays.specs.Runs.{no_place}
use Rattle.anb_host.specs.declared.event.HostEvent.{HostEvent}
use Rattle.anb_host.specs.declared.event.Notice.{Notice}
use Rattle.anb_host.specs.declared.event.Notice.TheVariants.{Message, Refused}
use Rattle.anb_host.specs.declared.event.Cause.TheVariants as cause
use Rattle.anb_host.specs.Alone.{IsToldAlone, end_in, end_of, message_in, notices_to}
use Rattle.anb_host.specs.HostFrames.{out}
use Rattle.anb_host.specs.Own.{session_of, is_start, is_oversize, arrival_of, events_of, has_start, is_over, end_notices, accepted_after, accepted, has_ended, sent_in, own, answer, told}
use Rattle.anb_host.specs.Serving.{size_of, stamps}

-- ---- events of bytes

abbrev pub AreBytes : List (List ℕ) → Type 0
AreBytes strings = AllByRecursion IsBytes strings

abbrev pub HasBytes : HostEvent → Type 0
HasBytes e = AreBytes (arrival_of e)

abbrev pub HaveBytes : List HostEvent → Type 0
HaveBytes events = AllByRecursion HasBytes events

both_bytes : (xs ys : List (List ℕ)) → AreBytes xs → AreBytes ys → AreBytes (xs ++ ys)
both_bytes [] ys none bytes = bytes
both_bytes (x ∷ xs) ys (b, more) bytes = (b, both_bytes xs ys more bytes)

pub both_have : (xs ys : List HostEvent) → HaveBytes xs → HaveBytes ys → HaveBytes (xs ++ ys)
both_have [] ys none have = have
both_have (x ∷ xs) ys (b, more) have = (b, both_have xs ys more have)

pub of_session : (s : ℕ) (events : List HostEvent) → HaveBytes events → HaveBytes (events_of s events)
of_session s [] none = tt
of_session s (e ∷ events) (b, more) = by (session_of e == s) (of_session s events more) where
  by : (c : Bool) → HaveBytes (events_of s events) → HaveBytes (cond c (e ∷ events_of s events) (events_of s events))
  by true rest = (b, rest)
  by false rest = rest

-- ---- alike

-- the same messages, and the same end, but for the instruction of a stop
pub record Alike (p q : Played (List ℕ)) : Type 0 where
  pub sent : p.sent ≡ q.sent
  pub ends : no_place p.end ≡ no_place q.end

over_placeless : (e : End) → is_over (no_place e) ≡ is_over e
over_placeless (stopped e at) = refl
over_placeless (waiting e) = refl
over_placeless done = refl

notices_placeless : (s : ℕ) (e : End) → end_notices s (no_place e) ≡ end_notices s e
notices_placeless s (stopped e at) = refl
notices_placeless s (waiting e) = refl
notices_placeless s done = refl

over_alike : (p q : Played (List ℕ)) → Alike p q → is_over p.end ≡ is_over q.end
over_alike p q a = sym (over_placeless p.end) ∙ ap is_over a.ends ∙ over_placeless q.end

notices_alike : (s : ℕ) (p q : Played (List ℕ)) → Alike p q → end_notices s p.end ≡ end_notices s q.end
notices_alike s p q a = sym (notices_placeless s p.end) ∙ ap (end_notices s) a.ends ∙ notices_placeless s q.end

-- ---- one session

module _ (P Q : Run) (alike : (arrivals : List (List ℕ)) → AreBytes arrivals → Alike (P arrivals) (Q arrivals)) where
  abbrev next : Bool → Bool → List (List ℕ) → HostEvent → List (List ℕ)
  next started over arrivals e = cond (started && not over) (arrivals ++ arrival_of e) arrivals

  next_bytes : (c : Bool) (arrivals : List (List ℕ)) (e : HostEvent) → AreBytes arrivals → HasBytes e → AreBytes (cond c (arrivals ++ arrival_of e) arrivals)
  next_bytes true arrivals e bytes b = both_bytes arrivals (arrival_of e) bytes b
  next_bytes false arrivals e bytes b = bytes

  same_accepted : (started : Bool) (arrivals : List (List ℕ)) (events : List HostEvent) → AreBytes arrivals → HaveBytes events
      → (accepted_after P started arrivals events ≡ accepted_after Q started arrivals events) × AreBytes (accepted_after Q started arrivals events)
  same_accepted started arrivals [] bytes none = (refl, bytes)
  same_accepted started arrivals (e ∷ events) bytes (b, more) =
      let over = over_alike (P arrivals) (Q arrivals) (alike arrivals bytes) in
      let on = is_over (Q arrivals).end in
      let rest = same_accepted (started || is_start e) (next started on arrivals e) events (next_bytes (started && not on) arrivals e bytes b) more in
      (ap (λ o. accepted_after P (started || is_start e) (next started o arrivals e) events) over ∙ rest.0, rest.1)

  -- the messages and the end of what a session has accepted
  pub same_sent : (events : List HostEvent) → HaveBytes events → sent_in P events ≡ sent_in Q events
  same_sent events have =
      let so_far = same_accepted false [] events tt have in
      ap (λ xs. cond (has_start events) (P xs).sent []) so_far.0 ∙ ap (λ m. cond (has_start events) m []) (alike (accepted Q events) so_far.1).sent

  pub same_end : (s : ℕ) (events : List HostEvent) → HaveBytes events → end_of P s events ≡ end_of Q s events
  same_end s events have =
      let so_far = same_accepted false [] events tt have in
      let at = accepted Q events in
      ap (λ xs. cond (has_start events) (end_notices s (P xs).end) []) so_far.0 ∙ ap (λ n. cond (has_start events) n []) (notices_alike s (P at) (Q at) (alike at so_far.1))

  -- what a session is told, by what was so far and comes now
  abbrev own_by : (s : ℕ) (past : List HostEvent) (x : HostEvent) (ended : Bool) (before sent : List (List ℕ)) (ending : List Notice) → List Notice
  own_by s past x ended before sent ending =
      cond (nat_lt 1023 s) (Refused s cause.Range ∷ [])
      (cond (is_start x && has_start past) (Refused s cause.Started ∷ [])
      (cond (not (is_start x) && not (has_start past)) (Refused s cause.NotStarted ∷ [])
      (cond ended (Refused s cause.Ended ∷ [])
      (cond (is_oversize x) (Refused s cause.Oversize ∷ []) (map (Message s) (drop (length before) sent) ++ ending)))))

  pub same_own : (s : ℕ) (past : List HostEvent) (x : HostEvent) → HaveBytes past → HasBytes x → own P s past x ≡ own Q s past x
  same_own s past x have b =
      let so_far = same_accepted false [] past tt have in
      let at = accepted Q past in
      let before = alike at so_far.1 in
      let now = alike (at ++ arrival_of x) (both_bytes at (arrival_of x) so_far.1 b) in
      let ended : has_ended P past ≡ has_ended Q past =
      ap (λ xs. has_start past && is_over (P xs).end) so_far.0 ∙ ap (λ o. has_start past && o) (over_alike (P at) (Q at) before) in
      let sent : sent_in P past ≡ sent_in Q past =
      ap (λ xs. cond (has_start past) (P xs).sent []) so_far.0 ∙ ap (λ m. cond (has_start past) m []) before.sent in
      let messages : (P (accepted P past ++ arrival_of x)).sent ≡ (Q (at ++ arrival_of x)).sent = ap (λ xs. (P (xs ++ arrival_of x)).sent) so_far.0 ∙ now.sent in
      let ending : end_notices s (P (accepted P past ++ arrival_of x)).end ≡ end_notices s (Q (at ++ arrival_of x)).end =
      ap (λ xs. end_notices s (P (xs ++ arrival_of x)).end) so_far.0 ∙ notices_alike s (P (at ++ arrival_of x)) (Q (at ++ arrival_of x)) now in
      let p = P (accepted P past ++ arrival_of x) in
      let q = Q (at ++ arrival_of x) in
      ap (λ o. own_by s past x o (sent_in P past) p.sent (end_notices s p.end)) ended
      ∙ ap (λ m. own_by s past x (has_ended Q past) m p.sent (end_notices s p.end)) sent
      ∙ ap (λ m. own_by s past x (has_ended Q past) (sent_in Q past) m (end_notices s p.end)) messages
      ∙ ap (λ n. own_by s past x (has_ended Q past) (sent_in Q past) q.sent n) ending

-- ---- all sessions

module _ (P Q : ℕ → Run) (alike : (s : ℕ) (arrivals : List (List ℕ)) → AreBytes arrivals → Alike (P s arrivals) (Q s arrivals)) where
  same_answer : (past : List HostEvent) (x : HostEvent) → HaveBytes past → HasBytes x → answer P past x ≡ answer Q past x
  same_answer past x have b =
      let s = session_of x in
      same_own (P s) (Q s) (alike s) s (events_of s past) x (of_session s past have) b

  pub same_told : (past events : List HostEvent) → HaveBytes past → HaveBytes events → told P past events ≡ told Q past events
  same_told past [] have none = refl
  same_told past (x ∷ events) have (b, more) =
      ap (λ ns. ns ++ told P (past ++ x ∷ []) events) (same_answer past x have b)
      ∙ ap (λ ns. answer Q past x ++ ns) (same_told (past ++ x ∷ []) events (both_have past (x ∷ []) have (b, tt)) more)

  pub same_stamps : (past : List HostEvent) (written : ℕ) (events : List HostEvent) → HaveBytes past → HaveBytes events → stamps P past written events ≡ stamps Q past written events
  same_stamps past written [] have none = refl
  same_stamps past written (x ∷ events) have (b, more) =
      ap (λ ns. replicate (size_of x) written ++ stamps P (past ++ x ∷ []) (written + length (out ns)) events) (same_answer past x have b)
      ∙ ap (λ rest. replicate (size_of x) written ++ rest)
      (same_stamps (past ++ x ∷ []) (written + length (out (answer Q past x))) events (both_have past (x ∷ []) have (b, tt)) more)

  -- what is told alone by the one is by the other
  pub same_alone : (s : ℕ) (events : List HostEvent) → HaveBytes events → IsToldAlone P s events → IsToldAlone Q s events
  same_alone s events have alone =
      let told_same : told P [] events ≡ told Q [] events = same_told [] events tt have in
      let own = of_session s events have in
      record {
        sends = ap (λ ns. flat_map message_in (notices_to s ns)) (sym told_same) ∙ alone.sends ∙ same_sent (P s) (Q s) (alike s) (events_of s events) own;
        ends = ap (λ ns. flat_map end_in (notices_to s ns)) (sym told_same) ∙ alone.ends ∙ same_end (P s) (Q s) (alike s) s (events_of s events) own;
      }
