-- What is recorded of a play.
use Rattle.std.specs.Prelude.{◌≡◌, ◌≢◌, ◌⊎◌, ◌+◌, ◌≤◌, ℕ, List, [], ◌∷◌, ◌++◌, length, Option}
use Rattle.std.specs.List.{AllByRecursion}
use Rattle.anb_base.specs.Moves.{Rose}
use Rattle.anb_base.specs.declared.TheConstants.{ARRIVAL}
use Rattle.anb_frame.specs.Cuts.{Tail, CutLeft}
use Rattle.anb_plays.specs.Plays.{Run, waiting}
use Rattle.anb_session.specs.declared.PlayEnd.{PlayEnd}
use Rattle.anb_session.specs.declared.PlayEnd.TheVariants as ended
use Rattle.anb_store.specs.Stores.{StoreState}
use Rattle.anb_transcript.specs.Replays.{AreDue, Replays, arrivals_of, last_arrival}
use Rattle.anb_transcript.specs.declared.following.ReplayEnd.TheVariants as replayed
use Rattle.anb_transcript.specs.declared.transcript.TranscriptLine.{TranscriptLine}
use Rattle.anb_recording.specs.Journals.{OthersStay, appended}
use Rattle.anb_recording.specs.Lines.{IsPlain, line_text}
use Rattle.anb_recording.specs.declared.recording.Kept.{Kept}
use Rattle.anb_recording.specs.declared.recording.Kept.TheVariants.{Whole, Unwritten}

module _ (file : List ℕ) where
  -- a store in which these lines were appended to the file, one after another
  abbrev pub all_appended : StoreState → List TranscriptLine → StoreState
  all_appended store [] = store
  all_appended store (line ∷ lines) = all_appended (appended store file (line_text line)) lines

  -- The store before and after these lines came, by what is missing before and after. Nothing is
  -- missing where all of them were appended, and nothing was before. Once something is missing nothing
  -- more is done. No other file is touched.
  pub record Records (old new : StoreState) (before after : Kept) (lines : List TranscriptLine) : Type 0 where
    pub stuck : before ≢ Whole → (after ≡ before) × (new ≡ old)
    pub whole : after ≡ Whole → (before ≡ Whole) × (new ≡ all_appended old lines)
    pub failed : after ≡ Unwritten → (before ≡ Unwritten) ⊎ Rose old.faults new.faults
    pub quiet : after ≢ Unwritten → new.faults ≡ old.faults
    pub never_falls : old.faults ≤ new.faults
    pub others : OthersStay (λ name. name ≡ file) old new

-- what a replay of these lines over a run comes to, where the play ended so: it ends as the play did,
-- and where that waited it is as a transcript that ends before the next event, at which the run over its
-- arrivals waits
abbrev pub ReplaysAs : Run → List TranscriptLine → PlayEnd → Type 0
ReplaysAs R lines ended.Done = Replays R lines replayed.Follows
ReplaysAs R lines (ended.Stopped halt) = Replays R lines (replayed.Stopped halt (last_arrival lines))
ReplaysAs R lines (ended.Waiting e) = Replays R lines (replayed.Short (length lines + 1)) × ((R (arrivals_of lines)).end ≡ waiting e)
ReplaysAs R lines (ended.Truncated have need) = Replays R lines (replayed.Short (length lines + 1))
ReplaysAs R lines (ended.TooLarge len) = Replays R lines (replayed.Short (length lines + 1))
ReplaysAs R lines ended.ReadFault = Replays R lines (replayed.Short (length lines + 1))
ReplaysAs R lines ended.WriteFault = AreDue R lines
ReplaysAs R lines ended.NoMemory = Unit {0}

-- What was recorded of a run over what was left of an input: lines that are its transcript
pub record IsRecorded (R : Run) (file : List ℕ) (old new : StoreState) (kept : Kept)
    (left : Option (List ℕ)) (end : PlayEnd) : Type 0 where
  pub lines : List TranscriptLine
  pub plain : AllByRecursion IsPlain lines
  pub records : Records file old new Whole kept lines
  -- its arrivals are the first of those that were there
  pub heard : (arrivals : List (List ℕ)) (tail : Tail) → CutLeft ARRIVAL left arrivals tail
      → (rest : List (List ℕ)) × (arrivals ≡ arrivals_of lines ++ rest)
  pub replays : ReplaysAs R lines end
