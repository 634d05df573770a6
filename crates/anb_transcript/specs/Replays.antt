-- What comes of a transcript over a run.
use Rattle.std.specs.Prelude.{◌≡◌, ◌≢◌, ◌+◌, ◌-◌, ℕ, Bool, true, false, List, [], ◌∷◌, ◌++◌, length, drop, Result, Ok, Err}
use Rattle.std.specs.List.{suffix_len}
use Rattle.anb_plays.specs.Plays as plays
use Rattle.anb_plays.specs.Plays.{Played}
use Rattle.anb_machine.specs.declared.turn.Halt.{Halt}
use Rattle.anb_transcript.specs.declared.transcript.TranscriptLine.{TranscriptLine}
use Rattle.anb_transcript.specs.declared.transcript.TranscriptLine.TheVariants.{In, Out}
use Rattle.anb_transcript.specs.declared.following.Due.{Due}
use Rattle.anb_transcript.specs.declared.following.Due.TheVariants.{Send, Receive, End}
use Rattle.anb_transcript.specs.declared.following.ReplayEnd.{ReplayEnd}
use Rattle.anb_transcript.specs.declared.following.ReplayEnd.TheVariants.{Follows, Differs, Short, Stopped, NoMemory}

abbrev pub arrivals_of : List TranscriptLine → List (List ℕ)
arrivals_of [] = []
arrivals_of (In arrival ∷ lines) = arrival ∷ arrivals_of lines
arrivals_of (Out message ∷ lines) = arrivals_of lines

abbrev pub messages_of : List TranscriptLine → List (List ℕ)
messages_of [] = []
messages_of (In arrival ∷ lines) = messages_of lines
messages_of (Out message ∷ lines) = message ∷ messages_of lines

-- the next of these messages is due, and behind the last of them what the run's end asks for; where it stopped, nothing is
abbrev pub due_of : List (List ℕ) → plays.End → Result Due Halt
due_of (message ∷ messages) end = Ok (Send message)
due_of [] (plays.waiting e) = Ok Receive
due_of [] plays.done = Ok End
due_of [] (plays.stopped e at) = Err (record { event = e; at = at })

-- what is due behind so many messages
abbrev pub due_in : Played (List ℕ) → ℕ → Result Due Halt
due_in p covered = due_of (drop covered p.sent) p.end

-- the line is what is due
abbrev pub IsDue : Result Due Halt → TranscriptLine → Type 0
IsDue (Ok (Send due)) (Out message) = message ≡ due
IsDue (Ok Receive) (In arrival) = Unit {0}
IsDue _ _ = ⊥

abbrev pub is_message : TranscriptLine → Bool
is_message (In arrival) = false
is_message (Out message) = true

-- the number of the last arrival among these lines, from 1, or 0 where there is none
abbrev pub last_arrival : List TranscriptLine → ℕ
last_arrival lines = length lines - suffix_len is_message lines

-- R is the run
module _ (R : List (List ℕ) → Played (List ℕ)) where
  -- what is due behind these lines, by the run over their arrivals
  abbrev pub due_after : List TranscriptLine → Result Due Halt
  due_after lines = due_in (R (arrivals_of lines)) (length (messages_of lines))

  -- each of these lines is what is due behind those before it
  abbrev pub AreDue : List TranscriptLine → Type 0
  AreDue lines = (before after : List TranscriptLine) (line : TranscriptLine) → lines ≡ before ++ line ∷ after → IsDue (due_after before) line

  -- what comes of a transcript of these lines. It differs at the first line that isn't what is due; it is short where all
  -- are and something else than the end is due, which is that event; and where the run stops, the lines behind aren't
  -- looked at. Want of memory says nothing
  abbrev pub Replays : List TranscriptLine → ReplayEnd → Type 0
  Replays lines Follows = AreDue lines × (due_after lines ≡ Ok End)
  Replays lines (Differs n due) = (before : List TranscriptLine) × (line : TranscriptLine) × (after : List TranscriptLine)
      × (lines ≡ before ++ line ∷ after) × (n ≡ length before + 1) × AreDue before × (due_after before ≡ Ok due) × (IsDue (Ok due) line → ⊥)
  Replays lines (Short event) = (due : Due) × AreDue lines × (due_after lines ≡ Ok due) × (due ≢ End) × (event ≡ length lines + 1)
  Replays lines (Stopped halt n) = (before : List TranscriptLine) × (after : List TranscriptLine)
      × (lines ≡ before ++ after) × (n ≡ last_arrival before) × AreDue before × (due_after before ≡ Err halt)
  Replays lines NoMemory = Unit {0}

-- over each run exactly one end comes of a transcript
abbrev pub ReplaysOne : Type 0
ReplaysOne = (R : List (List ℕ) → Played (List ℕ)) (lines : List TranscriptLine) → (one : ReplayEnd) × (one ≢ NoMemory) × Replays R lines one
    × ((other : ReplayEnd) → other ≢ NoMemory → Replays R lines other → other ≡ one)
