-- How a recording goes on, turn by turn.
use Rattle.std.specs.Prelude.{◌≡◌, ℕ, List, [], ◌∷◌}
use Rattle.std.specs.List.{AllByRecursion}
use Rattle.anb_plays.specs.Plays.{Run}
use Rattle.anb_store.specs.Stores.{StoreState}
use Rattle.anb_transcript.specs.Replays.{arrivals_of}
use Rattle.anb_transcript.specs.Turns.{Covers}
use Rattle.anb_transcript.specs.declared.transcript.TranscriptLine.{TranscriptLine}
use Rattle.anb_recording.specs.Lines.{IsPlain}
use Rattle.anb_recording.specs.Recordings.{Records}
use Rattle.anb_recording.specs.declared.recording.Kept.{Kept}

-- each of these lines is what is due in turn, and behind the last of them R goes on as R'
abbrev pub CoversAll : (R R' : Run) → List TranscriptLine → Type 0
CoversAll R R' [] = (arrivals : List (List ℕ)) → R arrivals ≡ R' arrivals
CoversAll R R' (line ∷ lines) = (S : Run) × Covers R S line × CoversAll S R' lines

-- a recording that went on by these arrivals, where what is played goes on so
pub record RecordsOn (Played : Type 0) (R R' : Run) (file : List ℕ) (old new : StoreState) (before after : Kept)
    (used : List (List ℕ)) : Type 0 where
  pub played : Played
  pub lines : List TranscriptLine
  pub used_is : used ≡ arrivals_of lines
  pub plain : AllByRecursion IsPlain lines
  pub covers : CoversAll R R' lines
  pub records : Records file old new before after lines
