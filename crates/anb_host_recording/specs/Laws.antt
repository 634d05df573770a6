-- What is recorded of a host is the transcript of each session.
use Rattle.std.specs.Prelude.{◌≡◌, ℕ, ◌<◌, true, List, [], Some}
use Rattle.anb_plays.specs.Plays.{Run}
use Rattle.anb_store.specs.Stores.{StoreState}
use Rattle.anb_recording.specs.Journals.{Files}
use Rattle.anb_recording.specs.Lines.{lines_text}
use Rattle.anb_host.specs.declared.event.HostEvent.{HostEvent}
use Rattle.anb_host.specs.Alone.{SendsOn}
use Rattle.anb_host.specs.Own.{events_of, has_start}
use Rattle.anb_host_recording.specs.Entries.{all_noted, transcript_of}
use Rattle.anb_host_recording.specs.Sessions.{IsTranscript, session_lines}

-- the lines of a started session are its transcript, where its play grows
abbrev pub LinesAreTranscripts : Type 0
LinesAreTranscripts = (play : Run) (s : ℕ) (events : List HostEvent)
    → s < 1024 → SendsOn play → has_start events ≡ true → IsTranscript play events (session_lines play s events)

-- the file is that of a session that was started by these events
abbrev pub IsOfStarted : (folder : List ℕ) → List HostEvent → (name : List ℕ) → Type 0
IsOfStarted folder events name =
    (session : ℕ) × (session < 1024) × (has_start (events_of session events) ≡ true) × (name ≡ transcript_of folder session)

-- What new events of a host leave in a store: each started session's file has its lines, and each other file is
-- as it was.
abbrev pub FilesAreOfSessions : Type 0
FilesAreOfSessions = (plays : ℕ → Run) (folder : List ℕ) (events : List HostEvent) (store : StoreState) (files : Files)
    → store.files ≡ Some files
    → (now : Files) × ((all_noted plays folder store [] events).files ≡ Some now)
    × ((session : ℕ) → session < 1024 → has_start (events_of session events) ≡ true
    → now (transcript_of folder session)
    ≡ Some (lines_text (session_lines (plays session) session (events_of session events))))
    × ((name : List ℕ) → (IsOfStarted folder events name → ⊥) → now name ≡ files name)
