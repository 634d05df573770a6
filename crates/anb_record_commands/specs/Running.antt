-- What comes of a code's run that is recorded in a file. For proofs alone.
use Rattle.std.specs.Prelude.{◌≡◌, ◌≢◌, ℕ, List, [], ◌++◌, Option, Some, slice_get, take}
use Rattle.std.specs.List.{AllByRecursion}
use Rattle.anb_base.specs.Bytes.{IsBytes}
use Rattle.anb_base.specs.Moves.{Rose, Took}
use Rattle.anb_base.specs.declared.TheConstants.{ARRIVAL}
use Rattle.anb_frame.specs.Cuts.{Tail, CutLeft}
use Rattle.anb_plays.specs.Plays.{Run}
use Rattle.anb_protocol.specs.Plays.{IsPlay}
use Rattle.anb_protocol.specs.Protocols.{ProtocolValue, role_number}
use Rattle.anb_choice.specs.Lawful.{BranchedValue}
use Rattle.anb_branch.specs.Taken.{place_taken}
use Rattle.anb_recording.specs.Journals.{IsThere, OthersStay, begun}
use Rattle.anb_recording.specs.Lines.{IsPlain}
use Rattle.anb_recording.specs.Recordings.{all_appended}
use Rattle.anb_recording.specs.declared.recording.Kept.{Kept}
use Rattle.anb_recording.specs.declared.recording.Kept.TheVariants as kept
use Rattle.anb_store.specs.Stores.{StoreState, replaced}
use Rattle.anb_host.specs.declared.event.HostEvent.{HostEvent}
use Rattle.anb_host.specs.HostFrames.{End, FramesLeft, HostFrames, Tail as HostTail}
use Rattle.anb_host.specs.Serving.{IsBehind}
use Rattle.anb_host_recording.specs.Entries.{all_lines, all_noted}
use Rattle.anb_host_recording.specs.declared.recording.Noted.{Noted}
use Rattle.anb_host_recording.specs.declared.recording.Noted.TheVariants as noted
use Rattle.anb_status.specs.declared.status.Status.{Status}
use Rattle.anb_status.specs.declared.status.Status.TheVariants.{NoMemory}
use Rattle.anb_transcript.specs.Replays.{arrivals_of}
use Rattle.anb_transcript.specs.declared.transcript.TranscriptLine.{TranscriptLine}
use Rattle.anb_record_commands.specs.HostInto.{IsFresh, IsOfHost}
use Rattle.anb_recorded.specs.Names.{values_in}
use Rattle.anb_record_commands.specs.Names.{transcript_in}
use Rattle.anb_recorded.specs.Outcomes.{AreAbsent, IsCalm}
use Rattle.anb_record_commands.specs.Outcomes.{IsOfFolder, IsReadAgain, ReplaysTo, Valued, text_of}
use Rattle.anb_recorded.specs.declared.ended.Missing.{Missing}
use Rattle.anb_recorded.specs.declared.ended.Missing.TheVariants as missing
use Rattle.anb_record_commands.specs.declared.opening.Opened.{Opened}
use Rattle.anb_record_commands.specs.declared.opening.Opened.TheVariants as opened

abbrev pub missing_of : Kept → (transcript : List ℕ) → Missing
missing_of kept.Whole transcript = missing.Nothing
missing_of kept.Unwritten transcript = missing.Unwritten transcript
missing_of kept.NoMemory transcript = missing.NoMemory

module _ (file : List ℕ) (old new : StoreState) where
  -- what may be missing of lines that were appended to the file
  abbrev pub MissesLines : (end : Status) → Missing → Type 0
  MissesLines end missing.Nothing = IsCalm (λ other. other ≡ file) old new end
  MissesLines end missing.NoMemory = IsCalm (λ other. other ≡ file) old new end
  MissesLines end (missing.Unwritten name) =
      (name ≡ file) × (end ≢ NoMemory → Rose old.faults new.faults × OthersStay (λ other. other ≡ file) old new)
  MissesLines end (missing.There name) = ⊥

-- the transcript of a run that ended so was appended to the file
pub record RecordsRun (R : Run) (file : List ℕ) (old new : StoreState) (left : Option (List ℕ)) (end : Status) : Type 0 where
  pub lines : List TranscriptLine
  pub plain : AllByRecursion IsPlain lines
  pub heard : (arrivals : List (List ℕ)) (tail : Tail) → CutLeft ARRIVAL left arrivals tail
      → (rest : List (List ℕ)) × (arrivals ≡ arrivals_of lines ++ rest)
  pub replays : ReplaysTo R lines end
  pub store : new ≡ all_appended file old lines

-- what came of making the files of a recording, the values with this text
module _ (folder text : List ℕ) (old new : StoreState) where
  abbrev pub IsOpened : Opened → Type 0
  IsOpened (opened.Ready transcript) = (transcript ≡ transcript_in folder) × (new ≡ begun old (values_in folder) text (transcript_in folder)) × AreAbsent (IsOfFolder folder) old
  IsOpened (opened.There name) = IsOfFolder folder name × IsThere old name × (new ≡ old)
  IsOpened (opened.Failed name) = IsOfFolder folder name × Rose old.faults new.faults × OthersStay (IsOfFolder folder) old new
  IsOpened opened.NoMemory = Unit {0}

-- the transcript of the arm that is taken was appended to the file
pub record RecordsArm (b : BranchedValue) (role : List ℕ) (told : Option ℕ) (initial : List (List ℕ)) (seed : List ℕ)
    (file : List ℕ) (old new : StoreState) (left : Option (List ℕ)) (end : Status) : Type 0 where
  pub arm : ProtocolValue
  pub run : Run
  pub comes : (arrivals : List (List ℕ)) → AllByRecursion IsBytes arrivals → IsPlay arm (role_number arm.roles role) initial seed 0 arrivals (run arrivals)
  pub records : RecordsRun run file old new left end
  pub taken : slice_get b.arms (place_taken b role told (arrivals_of records.lines)) ≡ Some arm

-- ---- a host

-- what came of making the values of a host, with this text
module _ (folder text : List ℕ) (old new : StoreState) where
  abbrev pub IsHostOpened : Missing → Type 0
  IsHostOpened missing.Nothing = IsFresh folder old × (new ≡ replaced old (values_in folder) text)
  IsHostOpened (missing.There name) = IsOfHost folder name × IsThere old name × (new ≡ old)
  IsHostOpened (missing.Unwritten name) =
      IsFresh folder old × IsOfHost folder name × Rose old.faults new.faults × OthersStay (IsOfHost folder) old new
  IsHostOpened missing.NoMemory = Unit {0}

abbrev pub missing_of_host : Noted → Missing
missing_of_host noted.Whole = missing.Nothing
missing_of_host (noted.Unwritten name) = missing.Unwritten name
missing_of_host noted.NoMemory = missing.NoMemory

module _ (folder : List ℕ) (old new : StoreState) where
  -- what may be missing of the lines of sessions
  abbrev pub MissesSessions : (end : Status) → Missing → Type 0
  MissesSessions end missing.Nothing = IsCalm (IsOfHost folder) old new end
  MissesSessions end missing.NoMemory = IsCalm (IsOfHost folder) old new end
  MissesSessions end (missing.Unwritten name) =
      end ≢ NoMemory → IsOfHost folder name × Rose old.faults new.faults × OthersStay (IsOfHost folder) old new
  MissesSessions end (missing.There name) = ⊥

  -- the lines of some events were appended: of those whose frames were taken whole, wherever the input is told
  pub record RecordsSessions (plays : ℕ → Run) (left left_now : Option (List ℕ)) : Type 0 where
    pub some : List HostEvent
    pub plain : AllByRecursion IsPlain (all_lines plays [] some)
    pub store : new ≡ all_noted plays folder old [] some
    pub taken : (events : List HostEvent) (tail : HostTail) → FramesLeft left events tail
        → (z : List ℕ) × IsBehind z × ((frames : List ℕ) × HostFrames frames some End × Took left left_now (frames ++ z))
        × ((k : ℕ) × (some ≡ take k events))

-- The lines of a host's sessions were appended, behind its values
pub record RecordsServed (plays : ℕ → Run) (valued : Valued) (folder : List ℕ) (old new : StoreState) (left left_now : Option (List ℕ)) : Type 0 where
  pub mid : StoreState
  pub made : mid ≡ replaced old (values_in folder) (text_of valued)
  pub reads : IsReadAgain valued
  pub sessions : RecordsSessions folder mid new plays left left_now
