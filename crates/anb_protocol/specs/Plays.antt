-- What a role's plan comes to over byte strings.
use Rattle.std.specs.Prelude.{ℕ, ◌<◌, List, length, map}
use Rattle.anb_term.specs.Tree.{Tree}
use Rattle.anb_term.specs.Value.{Meaning}
use Rattle.anb_term.specs.Agree.{Agree, Gives}
use Rattle.anb_algebra.specs.ByteMeaning.{byte_meaning, has_operator}
use Rattle.anb_seal.specs.Streams.{draw_of}
use Rattle.anb_plays.specs.Plans.{Event, know, fresh, send, recv, Sendable}
use Rattle.anb_plays.specs.Plays.{Played, Play}
use Rattle.anb_plays.specs.Honest.{honest}
use Rattle.anb_protocol.specs.Protocols.{ProtocolValue}
use Rattle.anb_protocol.specs.Plans.{PlanEvent, to_know, to_make, to_send, to_receive, plan_of}

-- an event without the number of its action
abbrev pub event_of : PlanEvent → Event
event_of (to_know t) = know t
event_of (to_make t) = fresh t
event_of (to_send action t) = send t
event_of (to_receive action t) = recv t

abbrev pub events_of : ProtocolValue → ℕ → List Event
events_of p role = map event_of (plan_of p role)

-- byte strings, by the protocol's formats and suite
abbrev pub meaning_of : ProtocolValue → Meaning (List ℕ)
meaning_of p = byte_meaning p.formats p.suite

-- byte strings of labels agree with the labels' terms
abbrev pub Agrees : ProtocolValue → List Tree → List (List ℕ) → Type 0
Agrees p frame strings = Agree (meaning_of p) frame strings

-- what labels with these terms and byte strings give for a term
abbrev pub GivesBytes : ProtocolValue → List Tree → List (List ℕ) → Tree → List ℕ → Type 0
GivesBytes p frame strings t bytes = Gives (meaning_of p) frame strings t bytes

-- each message of each role has a recipe over what the role has by then
abbrev pub IsSendable : ProtocolValue → Type 0
IsSendable p = (role : ℕ) → role < length p.roles → Sendable (has_operator p.formats) (events_of p role)

-- what comes of a role that begins with these values, draws from a session under a seed, and receives these arrivals
abbrev pub IsPlay : ProtocolValue → ℕ → List (List ℕ) → List ℕ → ℕ → List (List ℕ) → Played (List ℕ) → Type 0
IsPlay p role init seed session arrivals played = Play (meaning_of p) (draw_of seed session) (events_of p role) init arrivals played

-- the bytes of a term where these are the bytes of the atoms
abbrev pub honest_bytes : ProtocolValue → (ℕ → List ℕ) → Tree → List ℕ
honest_bytes p atoms t = honest (meaning_of p) atoms t
