-- What one line does to a run under way, and how it ends.
use Rattle.std.specs.Prelude.{◌≡◌, ◌≢◌, ◌+◌, ◌≤◌, ℕ, List, [], ◌∷◌, length, Ok, Err}
use Rattle.anb_base.specs.declared.TheConstants.{ARRIVAL}
use Rattle.anb_plays.specs.Plays.{Played, says}
use Rattle.anb_transcript.specs.declared.transcript.TranscriptLine.{TranscriptLine}
use Rattle.anb_transcript.specs.declared.transcript.TranscriptLine.TheVariants.{In, Out}
use Rattle.anb_transcript.specs.declared.following.Due.{Due}
use Rattle.anb_transcript.specs.declared.following.Due.TheVariants.{End}
use Rattle.anb_transcript.specs.declared.following.ReplayEnd.{ReplayEnd}
use Rattle.anb_transcript.specs.declared.following.ReplayEnd.TheVariants.{Follows, Differs, Short, Stopped, NoMemory}
use Rattle.anb_transcript.specs.Replays.{IsDue, due_after}

-- an arrival is no longer than a frame may be
abbrev pub IsShort : TranscriptLine → Type 0
IsShort (In arrival) = length arrival ≤ ARRIVAL
IsShort (Out message) = Unit {0}

-- behind a line the run R goes on as R'
abbrev pub GoesOn : (R R' : List (List ℕ) → Played (List ℕ)) → TranscriptLine → Type 0
GoesOn R R' (In arrival) = (arrivals : List (List ℕ)) → R (arrival ∷ arrivals) ≡ R' arrivals
GoesOn R R' (Out message) = (arrivals : List (List ℕ)) → R arrivals ≡ says message (R' arrivals)

-- the line is what is due, and behind it R goes on as R'
pub record Covers (R R' : List (List ℕ) → Played (List ℕ)) (line : TranscriptLine) : Type 0 where
  pub due : IsDue (due_after R []) line
  pub on : GoesOn R R' line

-- the replay ends at the line of this number, where the last arrival before it has the number `heard`
abbrev pub EndsAt : (List (List ℕ) → Played (List ℕ)) → TranscriptLine → (number heard : ℕ) → ReplayEnd → Type 0
EndsAt R line number heard (Differs n due) = (n ≡ number) × (due_after R [] ≡ Ok due) × (IsDue (Ok due) line → ⊥)
EndsAt R line number heard (Stopped halt n) = (n ≡ heard) × (due_after R [] ≡ Err halt)
EndsAt R line number heard NoMemory = Unit {0}
EndsAt R line number heard _ = ⊥

-- it ends behind so many lines, which were all
abbrev pub EndsBehind : (List (List ℕ) → Played (List ℕ)) → (covered heard : ℕ) → ReplayEnd → Type 0
EndsBehind R covered heard Follows = due_after R [] ≡ Ok End
EndsBehind R covered heard (Short event) = (due : Due) × (due_after R [] ≡ Ok due) × (due ≢ End) × (event ≡ covered + 1)
EndsBehind R covered heard (Stopped halt n) = (n ≡ heard) × (due_after R [] ≡ Err halt)
EndsBehind R covered heard NoMemory = Unit {0}
EndsBehind R covered heard (Differs n due) = ⊥
