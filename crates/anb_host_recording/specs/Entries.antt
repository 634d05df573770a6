-- What is recorded of an event of a host, by what it was answered.
use Rattle.std.specs.Prelude.{ℕ, Bool, true, false, List, [], ◌∷◌, ◌++◌, codes, decimal, if◌then◌else◌}
use Rattle.std.specs.List.{flat_map}
use Rattle.anb_plays.specs.Plays.{Run}
use Rattle.anb_store.specs.Stores.{StoreState, replaced}
use Rattle.anb_transcript.specs.declared.transcript.TranscriptLine.{TranscriptLine}
use Rattle.anb_transcript.specs.declared.transcript.TranscriptLine.TheVariants.{In, Out}
use Rattle.anb_recording.specs.Journals.{appended}
use Rattle.anb_recording.specs.Lines.{lines_text}
use Rattle.anb_host.specs.declared.event.HostEvent.{HostEvent}
use Rattle.anb_host.specs.declared.event.HostEvent.TheVariants.{Start, Arrive, Oversize}
use Rattle.anb_host.specs.declared.event.Notice.{Notice}
use Rattle.anb_host.specs.declared.event.Notice.TheVariants.{Message, Stopped, Finished, Refused}
use Rattle.anb_host.specs.Own.{answer, is_start, session_of}

-- the line of an arrival, and of a message
abbrev pub line_in : HostEvent → List TranscriptLine
line_in (Start s) = []
line_in (Arrive s arrival) = In arrival ∷ []
line_in (Oversize s len) = []

abbrev pub line_out : Notice → List TranscriptLine
line_out (Message s message) = Out message ∷ []
line_out (Stopped s e) = []
line_out (Finished s) = []
line_out (Refused s why) = []

-- the event was refused
abbrev pub is_refusal : List Notice → Bool
is_refusal (Refused s why ∷ rest) = true
is_refusal told = false

-- the lines of an event that was answered so: none where it was refused, else the arrival and then each message
abbrev pub lines_of : HostEvent → (told : List Notice) → List TranscriptLine
lines_of x told = if is_refusal told then [] else line_in x ++ flat_map line_out told

-- the file of a session's transcript
abbrev pub transcript_of : (folder : List ℕ) → (session : ℕ) → List ℕ
transcript_of folder session = folder ++ codes "/transcript-" ++ decimal session

-- a store in which these lines were put into a file: a start makes it, and what comes later is appended
abbrev pub put_into : (starts : Bool) → StoreState → (name lines : List ℕ) → StoreState
put_into starts store name lines = if starts then replaced store name lines else appended store name lines

-- a store in which the lines of an event were put into its session's file; nothing where it was refused
abbrev pub noted : (folder : List ℕ) → StoreState → HostEvent → (told : List Notice) → StoreState
noted folder store x told =
    if is_refusal told then store
    else put_into (is_start x) store (transcript_of folder (session_of x)) (lines_text (lines_of x told))

-- the same of all these events, one after another, behind those before
abbrev pub all_noted : (plays : ℕ → Run) → (folder : List ℕ) → StoreState → (past : List HostEvent) → List HostEvent → StoreState
all_noted plays folder store past [] = store
all_noted plays folder store past (x ∷ events) = all_noted plays folder (noted folder store x (answer plays past x)) (past ++ x ∷ []) events

-- the lines of all these events, of all sessions, in order
abbrev pub all_lines : (plays : ℕ → Run) → (past : List HostEvent) → List HostEvent → List TranscriptLine
all_lines plays past [] = []
all_lines plays past (x ∷ events) = lines_of x (answer plays past x) ++ all_lines plays (past ++ x ∷ []) events
