-- What a session is told in all: what its play, alone, sends, and how it ends.
use Rattle.std.specs.Prelude.{◌≡◌, ℕ, ◌<◌, List, [], ◌∷◌, ◌++◌, ◌==◌, filter, if◌then◌else◌}
use Rattle.std.specs.List.{flat_map}
use Rattle.anb_plays.specs.Plays.{Run}
use Rattle.anb_host.specs.declared.event.HostEvent.{HostEvent}
use Rattle.anb_host.specs.declared.event.Notice.{Notice}
use Rattle.anb_host.specs.declared.event.Notice.TheVariants.{Message, Stopped, Finished, Refused}
use Rattle.anb_host.specs.Own.{accepted, end_notices, events_of, has_start, sent_in, session_told, told}

-- the message that a notice tells, and the end, where it tells one
abbrev pub message_in : Notice → List (List ℕ)
message_in (Message s b) = b ∷ []
message_in (Stopped s e) = []
message_in (Finished s) = []
message_in (Refused s why) = []

abbrev pub end_in : Notice → List Notice
end_in (Message s b) = []
end_in (Stopped s e) = Stopped s e ∷ []
end_in (Finished s) = Finished s ∷ []
end_in (Refused s why) = []

-- the notices for session s
abbrev pub notices_to : ℕ → List Notice → List Notice
notices_to s notices = filter (λ n. session_told n == s) notices

-- a play grows: over more arrivals it sends what it sent, and then more
abbrev pub SendsOn : Run → Type 0
SendsOn play =
    (arrivals more : List (List ℕ))
    → (rest : List (List ℕ)) × ((play (arrivals ++ more)).sent ≡ (play arrivals).sent ++ rest)

-- how a session's play ended after its events, if it was started and has ended
abbrev pub end_of : Run → ℕ → List HostEvent → List Notice
end_of play s events =
    if has_start events then end_notices s (play (accepted play events)).end else []

-- A session is told in all: the messages that its play, alone, sends over the arrivals that it
-- accepted, and the end of that play.
pub record IsToldAlone (plays : ℕ → Run) (s : ℕ) (events : List HostEvent) : Type 0 where
  pub sends : flat_map message_in (notices_to s (told plays [] events))
      ≡ sent_in (plays s) (events_of s events)
  pub ends : flat_map end_in (notices_to s (told plays [] events))
      ≡ end_of (plays s) s (events_of s events)

abbrev pub SessionsAreAlone : Type 0
SessionsAreAlone = (plays : ℕ → Run) (s : ℕ) (events : List HostEvent)
    → s < 1024 → SendsOn (plays s) → IsToldAlone plays s events
