-- What somebody who sees a role says of a transcript.
use Rattle.std.specs.Prelude.{◌≡◌, ◌+◌, ◌≤◌, ℕ, zero, suc, nat_le, nat_lt, List, [], ◌∷◌, length, map, take, Bool, true, false, Option, Some, None, slice_get, unwrap_or, if◌then◌else◌}
use Rattle.anb_algebra.specs.ByteMeaning.{has_operator}
use Rattle.anb_plays.specs.Plans.{Event, know, fresh, send, recv, Sendable}
use Rattle.anb_plays.specs.Plays.{End, stopped, waiting, done, Played, Play}
use Rattle.anb_protocol.specs.Plays.{events_of, meaning_of}
use Rattle.anb_protocol.specs.Protocols.{ProtocolValue}
use Rattle.anb_transcript.specs.declared.transcript.TranscriptLine.{TranscriptLine}
use Rattle.anb_transcript.specs.declared.transcript.TranscriptLine.TheVariants.{In, Out}
use Rattle.anb_transcript.specs.declared.following.Due.{Due}
use Rattle.anb_transcript.specs.declared.following.Due.TheVariants.{Send, Receive, End as Over}
use Rattle.anb_transcript.specs.declared.following.ReplayEnd.{ReplayEnd}
use Rattle.anb_transcript.specs.declared.following.ReplayEnd.TheVariants.{Follows, Differs, Short, Stopped}
use Rattle.anb_judge.specs.Observed.{observed, IsConversation, MadeIsSeen}

-- of each message of a plan, in order: whether the role says it
abbrev pub sides : List Event → List Bool
sides [] = []
sides (know t ∷ es) = sides es
sides (fresh t ∷ es) = sides es
sides (send t ∷ es) = true ∷ sides es
sides (recv t ∷ es) = false ∷ sides es

-- the events up to the n-th message, and what is made behind it
abbrev pub up_to : ℕ → List Event → List Event
up_to n [] = []
up_to n (know t ∷ es) = know t ∷ up_to n es
up_to n (fresh t ∷ es) = fresh t ∷ up_to n es
up_to zero (send t ∷ es) = []
up_to zero (recv t ∷ es) = []
up_to (suc n) (send t ∷ es) = send t ∷ up_to n es
up_to (suc n) (recv t ∷ es) = recv t ∷ up_to n es

-- the bytes of the first lines, as long as each goes the way that is due
abbrev pub in_place : List Bool → List TranscriptLine → List (List ℕ)
in_place (true ∷ sides) (Out message ∷ lines) = message ∷ in_place sides lines
in_place (false ∷ sides) (In arrival ∷ lines) = arrival ∷ in_place sides lines
in_place sides lines = []

-- the role says the message of this event, of which the first has the number 1
abbrev pub is_said : List Bool → ℕ → Bool
is_said sides zero = false
is_said sides (suc n) = unwrap_or (slice_get sides n) false

-- what is due at an event. Of a message that the role says the bytes depend on its draws, and aren't told
abbrev pub due_at : List Bool → ℕ → Due
due_at sides event = if is_said sides event then Send [] else Receive

-- What is answered where who sees the role ends so over the lines in place, which are the first of so many. A message
-- that is refused is a line that differs where the role says it, and a stop where it hears it. Behind the lines in
-- place the next one goes the wrong way, or there is none; and behind the last message there is one too many, or none.
abbrev pub verdict : List Bool → (lines : ℕ) → End → ReplayEnd
verdict sides lines (stopped event at) =
    if is_said sides event then Differs event (due_at sides event)
    else Stopped (record { event = event; at = 0 }) event
verdict sides lines (waiting event) =
    if nat_le event lines then Differs event (due_at sides event) else Short event
verdict sides lines done =
    if nat_lt (length sides) lines then Differs (length sides + 1) Over else Follows

-- the number of a line that differs or at which the role stops
abbrev pub refused_at : ReplayEnd → Option ℕ
refused_at (Differs line due) = Some line
refused_at (Stopped halt line) = Some line
refused_at end = None

abbrev pub line_bytes : TranscriptLine → List ℕ
line_bytes (In arrival) = arrival
line_bytes (Out message) = message

-- a role of a protocol, which begins with these values, and the lines of a transcript
pub record Judged : Type 0 where
  pub protocol : ProtocolValue
  pub role : ℕ
  pub initial : List (List ℕ)
  pub lines : List TranscriptLine

module _ (judged : Judged) where
  abbrev pub own_plan : List Event
  own_plan = events_of judged.protocol judged.role

  -- the play of who sees the role, over the lines in place; it is the same whatever is drawn, since nothing is
  abbrev pub IsSeen : Played (List ℕ) → Type 0
  IsSeen played =
      (draw : ℕ → List ℕ) → Play (meaning_of judged.protocol) draw (observed own_plan) judged.initial
      (in_place (sides own_plan) judged.lines) played

  -- The transcript is one of the role: it has a line for each message, each goes the way that is due, and for some
  -- draws the lines are what the role hears and says in a play to its end.
  pub record IsOfRole : Type 0 where
    pub count : length judged.lines ≡ length (sides own_plan)
    pub placed : in_place (sides own_plan) judged.lines ≡ map line_bytes judged.lines
    pub conversation : IsConversation (meaning_of judged.protocol) own_plan judged.initial (map line_bytes judged.lines)

  -- for some draws the first n lines, of which each goes the way that is due, are what the role hears and says
  pub record IsBegun (n : ℕ) : Type 0 where
    pub count : n ≤ length judged.lines
    pub placed : take n (in_place (sides own_plan) judged.lines) ≡ map line_bytes (take n judged.lines)
    pub conversation : IsConversation (meaning_of judged.protocol) (up_to n own_plan) judged.initial
        (map line_bytes (take n judged.lines))

  -- What comes of the transcript: what who sees the role makes of it. Each transcript of the role follows; and where
  -- the names that the role makes can be told from what it knows, hears and says, no other one does. No draws allow the
  -- lines up to the one that is refused.
  pub record Judges (end : ReplayEnd) : Type 0 where
    pub played : Played (List ℕ)
    pub seen : IsSeen played
    pub is : end ≡ verdict (sides own_plan) (length judged.lines) played.end
    pub none : (n : ℕ) → refused_at end ≡ Some n → IsBegun n → ⊥
    pub all : IsOfRole → end ≡ Follows
    pub only : Sendable (has_operator judged.protocol.formats) own_plan
        → MadeIsSeen (has_operator judged.protocol.formats) own_plan → end ≡ Follows → IsOfRole
