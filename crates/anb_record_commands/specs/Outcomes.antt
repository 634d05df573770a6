-- What is in the folder of a play that is recorded.
use Rattle.std.specs.Prelude.{◌≡◌, ◌⊎◌, ℕ, List, [], ◌++◌, Option, Some, Ok}
use Rattle.std.specs.List.{AllByRecursion}
use Rattle.anb_base.specs.Bytes.{IsBytes}
use Rattle.anb_base.specs.declared.TheConstants.{ARRIVAL}
use Rattle.anb_base.specs.declared.place.Place.{Place}
use Rattle.anb_frame.specs.Cuts.{Tail, CutLeft}
use Rattle.anb_plays.specs.Plays.{Played, Run}
use Rattle.anb_recording.specs.Journals.{Files, IsEither}
use Rattle.anb_recording.specs.Lines.{IsPlain, lines_text}
use Rattle.anb_recording.specs.Recordings.{ReplaysAs}
use Rattle.anb_session.specs.declared.PlayEnd.{PlayEnd}
use Rattle.anb_store.specs.Stores.{StoreState}
use Rattle.anb_status.specs.declared.status.Status.{Status}
use Rattle.anb_status.specs.declared.status.Status.TheVariants.{Unreached}
use Rattle.anb_transcript.specs.Replays.{arrivals_of}
use Rattle.anb_transcript.specs.declared.transcript.TranscriptLine.{TranscriptLine}
use Rattle.anb_values.specs.Fit.{Fit}
use Rattle.anb_values_text.specs.Texts.{values_text}
use Rattle.anb_command.specs.Prepared.{status_of}
use Rattle.anb_command.specs.Steps.{Answer, given}
use Rattle.anb_recorded.specs.Names.{values_in}
use Rattle.anb_record_commands.specs.Names.{transcript_in}

-- one of the folder's files
abbrev pub IsOfFolder : (folder : List ℕ) → List ℕ → Type 0
IsOfFolder folder name = IsEither (values_in folder) (transcript_in folder) name

-- wherever the files are told, these two are in the folder now, and each other one is as it was
abbrev pub HoldsIn : (folder : List ℕ) → (store store_now : StoreState) → (values transcript : List ℕ) → Type 0
HoldsIn folder store store_now values transcript = (files : Files) → store.files ≡ Some files
    → (now : Files) × (store_now.files ≡ Some now) × (now (values_in folder) ≡ Some values) × (now (transcript_in folder) ≡ Some transcript)
    × ((name : List ℕ) → (IsOfFolder folder name → ⊥) → now name ≡ files name)

-- What a replay of these lines comes to where the play ended so: it ends as the play did. Where the place
-- wasn't reached there are no lines.
abbrev pub ReplaysTo : Run → List TranscriptLine → Status → Type 0
ReplaysTo R lines status =
    ((end : PlayEnd) × (status ≡ status_of end) × ReplaysAs R lines end)
    ⊎ ((place : Place) × (status ≡ Unreached place) × (lines ≡ []))

-- the values that a run was given, by their labels, and the seed of its draws
pub record Valued : Type 0 where
  pub labels : List (List ℕ)
  pub initial : List (List ℕ)
  pub seed : List ℕ

-- their values file, and what it is read as
abbrev pub text_of : Valued → List ℕ
text_of g = values_text g.labels g.initial (Some g.seed)

abbrev pub IsReadAgain : Valued → Type 0
IsReadAgain g = Fit (text_of g) g.labels (Ok (record { values = g.initial; seed = Some g.seed }))

-- What is recorded of a run whose play ended so over an input of which this was left: its transcript,
-- whose arrivals are the first of those that were there
pub record HasTranscript (R : Run) (folder : List ℕ) (store store_now : StoreState) (valued : Valued)
    (left : Option (List ℕ)) (end : Status) : Type 0 where
  pub lines : List TranscriptLine
  pub plain : AllByRecursion IsPlain lines
  pub heard : (arrivals : List (List ℕ)) (tail : Tail) → CutLeft ARRIVAL left arrivals tail
      → (rest : List (List ℕ)) × (arrivals ≡ arrivals_of lines ++ rest)
  pub replays : ReplaysTo R lines end
  pub reads : IsReadAgain valued
  pub holds : HoldsIn folder store store_now (text_of valued) (lines_text lines)

-- what is recorded of a thing that is asked for, which is given so
pub record HasRecord {A : Type 0} (IsRunOf : A → List (List ℕ) → Played (List ℕ) → Type 0) (valued_of : A → Valued)
    (Prepares : Answer A → Type 0) (folder : List ℕ) (store store_now : StoreState) (left : Option (List ℕ)) (end : Status) : Type 0 where
  pub asked : A
  pub asks : Prepares (given asked)
  pub run : Run
  pub comes : (arrivals : List (List ℕ)) → AllByRecursion IsBytes arrivals → IsRunOf asked arrivals (run arrivals)
  pub transcript : HasTranscript run folder store store_now (valued_of asked) left end
