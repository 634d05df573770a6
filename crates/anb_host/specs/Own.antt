-- What each session is told: by its own play, over its own events, whatever stands between.
use Rattle.std.specs.Prelude.{◌≡◌, ℕ, List, [], ◌∷◌, ◌++◌, length, map, drop, Bool, true, false, not, ◌&&◌, ◌||◌, ◌==◌, nat_lt, filter, if◌then◌else◌}
use Rattle.std.specs.List.{list_any}
use Rattle.anb_plays.specs.Plays.{End, stopped, waiting, done, Run}
use Rattle.anb_host.specs.declared.event.HostEvent.{HostEvent}
use Rattle.anb_host.specs.declared.event.HostEvent.TheVariants.{Start, Arrive, Oversize}
use Rattle.anb_host.specs.declared.event.Notice.{Notice}
use Rattle.anb_host.specs.declared.event.Notice.TheVariants.{Message, Stopped, Finished, Refused}
use Rattle.anb_host.specs.declared.event.Cause.TheVariants as cause

-- what an event is
abbrev pub session_of : HostEvent → ℕ
session_of (Start s) = s
session_of (Arrive s b) = s
session_of (Oversize s len) = s

abbrev pub is_start : HostEvent → Bool
is_start (Start s) = true
is_start (Arrive s b) = false
is_start (Oversize s len) = false

abbrev pub is_oversize : HostEvent → Bool
is_oversize (Start s) = false
is_oversize (Arrive s b) = false
is_oversize (Oversize s len) = true

-- the arrival, where it is one
abbrev pub arrival_of : HostEvent → List (List ℕ)
arrival_of (Start s) = []
arrival_of (Arrive s b) = b ∷ []
arrival_of (Oversize s len) = []

-- the events of session s, in order
abbrev pub events_of : ℕ → List HostEvent → List HostEvent
events_of s events = filter (λ e. session_of e == s) events

abbrev pub has_start : List HostEvent → Bool
has_start events = list_any is_start events

abbrev pub is_over : End → Bool
is_over (stopped e at) = true
is_over (waiting e) = false
is_over done = true

abbrev pub end_notices : ℕ → End → List Notice
end_notices s (stopped e at) = Stopped s e ∷ []
end_notices s (waiting e) = []
end_notices s done = Finished s ∷ []

-- messages of session s, and how its play ended
abbrev pub notices : ℕ → List (List ℕ) → End → List Notice
notices s messages end = map (Message s) messages ++ end_notices s end

-- one session, whose play this is
module _ (play : Run) where
  -- the arrivals that came after the start, until the play over them was over; `started` and
  -- `arrivals` tell what came before these events
  abbrev pub accepted_after :
      (started : Bool) → (arrivals : List (List ℕ)) → List HostEvent → List (List ℕ)
  accepted_after started arrivals [] = arrivals
  accepted_after started arrivals (e ∷ events) =
      accepted_after (started || is_start e)
      (if started && not (is_over (play arrivals).end) then arrivals ++ arrival_of e else arrivals)
      events

  abbrev pub accepted : List HostEvent → List (List ℕ)
  accepted events = accepted_after false [] events

  abbrev pub has_ended : List HostEvent → Bool
  has_ended events = has_start events && is_over (play (accepted events)).end

  -- the messages that it has sent; none before its start
  abbrev pub sent_in : List HostEvent → List (List ℕ)
  sent_in events = if has_start events then (play (accepted events)).sent else []

  -- what session s is told of the event x, after its own events before: the first case that holds
  abbrev pub own : (s : ℕ) → (past : List HostEvent) → (x : HostEvent) → List Notice
  own s past x =
      if nat_lt 1023 s then Refused s cause.Range ∷ []
      else if is_start x && has_start past then Refused s cause.Started ∷ []
      else if not (is_start x) && not (has_start past) then Refused s cause.NotStarted ∷ []
      else if has_ended past then Refused s cause.Ended ∷ []
      else if is_oversize x then Refused s cause.Oversize ∷ []
      else (let now = play (accepted past ++ arrival_of x) in
      notices s (drop (length (sent_in past)) now.sent) now.end)

-- whom a notice is for
abbrev pub session_told : Notice → ℕ
session_told (Message s b) = s
session_told (Stopped s e) = s
session_told (Finished s) = s
session_told (Refused s why) = s

-- the play of each session
module _ (plays : ℕ → Run) where
  -- what an event is answered, after all events before
  abbrev pub answer : (past : List HostEvent) → HostEvent → List Notice
  answer past x = own (plays (session_of x)) (session_of x) (events_of (session_of x) past) x

  -- all that these events are answered, in order
  abbrev pub told : (past : List HostEvent) → List HostEvent → List Notice
  told past [] = []
  told past (x ∷ events) = answer past x ++ told (past ++ x ∷ []) events

  -- each session is told what it would be told alone
  abbrev pub IsIsolated : Type 0
  IsIsolated = (events : List HostEvent) (s : ℕ)
      → filter (λ n. session_told n == s) (told [] events) ≡ told [] (events_of s events)
