-- What `host` does where its sessions are recorded in a folder.
use Rattle.std.specs.Prelude.{◌≡◌, ◌≢◌, ◌⊎◌, ◌<◌, ℕ, true, List, Option, Some}
use Rattle.std.specs.List.{AllByRecursion}
use Rattle.anb_base.specs.Bytes.{IsBytes}
use Rattle.anb_base.specs.Wires.{WireState}
use Rattle.anb_plays.specs.Plays.{Run}
use Rattle.anb_store.specs.Stores.{StoreState}
use Rattle.anb_recording.specs.Journals.{Files as StoreFiles}
use Rattle.anb_recording.specs.Lines.{IsPlain, lines_text}
use Rattle.anb_host.specs.declared.event.HostEvent.{HostEvent}
use Rattle.anb_host.specs.Own.{events_of, has_start}
use Rattle.anb_host.specs.Serving.{IsBehind}
use Rattle.anb_host_recording.specs.Entries.{transcript_of}
use Rattle.anb_host_recording.specs.Sessions.{IsTranscript, session_lines}
use Rattle.anb_transcript.specs.declared.transcript.TranscriptLine.{TranscriptLine}
use Rattle.anb_status.specs.declared.status.Status.{Status}
use Rattle.anb_command.specs.Fetches.{Files, IfTold}
use Rattle.anb_command.specs.Steps.{given}
use Rattle.anb_host_commands.specs.HostCommand.{CompletesHost, DoesHost, Takes}
use Rattle.anb_role_commands.specs.Jobs.{Job, JobIs}
use Rattle.anb_recorded.specs.Names.{values_in}
use Rattle.anb_recorded.specs.Outcomes.{AreAbsent, CompletesInFolder, DoesInFolder}
use Rattle.anb_record_commands.specs.Outcomes.{IsReadAgain, text_of}
use Rattle.anb_record_commands.specs.PlayInto.{job_values}

-- one of the folder's files: the values, or the transcript of some session
abbrev pub IsOfHost : (folder : List ℕ) → List ℕ → Type 0
IsOfHost folder name = (name ≡ values_in folder) ⊎ ((session : ℕ) × (session < 1024) × (name ≡ transcript_of folder session))

-- none of them is there
abbrev pub IsFresh : (folder : List ℕ) → StoreState → Type 0
IsFresh folder store = AreAbsent (IsOfHost folder) store

-- these events start the session
abbrev pub IsStarted : List HostEvent → (session : ℕ) → Type 0
IsStarted events session = (session < 1024) × (has_start (events_of session events) ≡ true)

-- the lines of a session among these events
abbrev pub lines_in : (plays : ℕ → Run) → List HostEvent → (session : ℕ) → List TranscriptLine
lines_in plays events session = session_lines (plays session) session (events_of session events)

-- wherever the files are told, the values and the lines of each session that was started are in the folder now,
-- and each other file is as it was
abbrev pub HoldsSessions : (folder : List ℕ) → (store store_now : StoreState) → (values : List ℕ) → (plays : ℕ → Run) → List HostEvent → Type 0
HoldsSessions folder store store_now values plays events = (files : StoreFiles) → store.files ≡ Some files
    → (now : StoreFiles) × (store_now.files ≡ Some now) × (now (values_in folder) ≡ Some values)
    × ((session : ℕ) → IsStarted events session → now (transcript_of folder session) ≡ Some (lines_text (lines_in plays events session)))
    × ((name : List ℕ) → name ≢ values_in folder → ((session : ℕ) → IsStarted events session → name ≢ transcript_of folder session) → now name ≡ files name)

-- What is recorded of the sessions of a job over an input of which so much is left. The events are those whose
-- frames were taken whole; the lines of each session that they start are its transcript.
pub record HasSessions (job : Job) (folder : List ℕ) (store store_now : StoreState) (left left_now : Option (List ℕ)) : Type 0 where
  pub some : List HostEvent
  pub z : List ℕ
  pub behind : IsBehind z
  pub takes : Takes job left left_now some z
  pub transcripts : (session : ℕ) → IsStarted some session
      → AllByRecursion IsPlain (lines_in takes.plays some session)
      × IsTranscript (takes.plays session) (events_of session some) (lines_in takes.plays some session)
  pub reads : IsReadAgain (job_values job)
  pub holds : HoldsSessions folder store store_now (text_of (job_values job)) takes.plays some

module _ (narration name values : List ℕ) (told : Option Files) (host_seed : Option (List ℕ))
    (old new : WireState) (folder : List ℕ) (store store_now : StoreState) where
  -- what is recorded, whatever the end
  abbrev pub RecordsHost : Status → Type 0
  RecordsHost end =
      IfTold told (λ files. IfTold old.left (λ left. IsBytes left
      → (job : Job) × JobIs files narration name values host_seed (given job) × HasSessions job folder store store_now old.left new.left))

  -- the wire is touched only where none of the files was there, whether or not the store failed
  pub record DoesHostInto (status : Status) : Type 0 where
    pub in_folder : DoesInFolder old new (IsOfHost folder) store store_now status (DoesHost narration name values told host_seed old new) RecordsHost
    pub fresh : (new ≡ old) ⊎ IsFresh folder store

  abbrev pub CompletesHostInto : Status → Type 0
  CompletesHostInto status =
      CompletesInFolder old new (IsOfHost folder) store store_now status (DoesHost narration name values told host_seed old new) RecordsHost
      (CompletesHost narration name values told host_seed old new)
