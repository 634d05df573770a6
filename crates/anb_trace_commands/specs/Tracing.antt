-- For proofs alone: what a trace needs, and what has come of one.
use Rattle.std.specs.Prelude.{◌≡◌, ◌≢◌, ◌⊎◌, ℕ, List, [], ◌++◌, Option, Some, Result, Ok, Err}
use Rattle.std.specs.List.{AllByRecursion}
use Rattle.anb_base.specs.Bytes.{IsBytes}
use Rattle.anb_base.specs.Moves.{Put, PutPrefix, Rose}
use Rattle.anb_base.specs.Wires.{WireState}
use Rattle.anb_code.specs.CodeValue.{CodeValue}
use Rattle.anb_explain.specs.Explained.{register_terms}
use Rattle.anb_protocol.specs.Protocols.{ProtocolValue}
use Rattle.anb_term.specs.Tree.{Tree}
use Rattle.anb_text.specs.declared.writing.WriteNo.{WriteNo}
use Rattle.anb_text.specs.declared.writing.WriteNo.TheVariants as writing
use Rattle.anb_trace.specs.Traces.{trace}
use Rattle.anb_transcript.specs.Replays.{arrivals_of}
use Rattle.anb_transcript.specs.declared.following.ReplayEnd.{ReplayEnd}
use Rattle.anb_transcript.specs.declared.transcript.TranscriptLine.{TranscriptLine}
use Rattle.anb_status.specs.declared.status.Status.{Status}
use Rattle.anb_status.specs.declared.status.Status.TheVariants.{FileFault, Unreached, ReadFault, WriteFault, ChildFault, ChildSilent, Unwritten, NoMemory}
use Rattle.anb_command.specs.Prepared.{IsRunBy}
use Rattle.anb_command.specs.Steps.{Answer, given}
use Rattle.anb_role_commands.specs.Comparing.{IsReplayed}
use Rattle.anb_role_commands.specs.Jobs.{Job}
use Rattle.anb_role_commands.specs.Playing.{PlayIn, play_in}
use Rattle.anb_role_commands.specs.ReplayCommand.{Comparison, status_of}
use Rattle.anb_trace_commands.specs.TraceCommand.{differing_line, subject_by}

abbrev pub job_by : ProtocolValue → ℕ → (initial : List (List ℕ)) → (seed : List ℕ) → Job
job_by p role initial seed = record { protocol = p; role = role; initial = initial; seed = seed }

-- this is asked for, and the code plays it in each session
pub record IsTraceable (Asks : Answer Comparison → Type 0) (p : ProtocolValue) (role : ℕ) (code : CodeValue) (initial : List (List ℕ)) (seed : List ℕ) (lines : List TranscriptLine) : Type 0 where
  pub asks : Asks (given (record { job = job_by p role initial seed; lines = lines }))
  pub comes : (session : ℕ) → IsRunBy (PlayIn session) (job_by p role initial seed) (play_in code initial seed session)
  pub bytes : AllByRecursion IsBytes (arrivals_of lines)

module _ (p : ProtocolValue) (role : ℕ) (code : CodeValue) (initial : List (List ℕ)) (seed : List ℕ) (session : ℕ) (lines : List TranscriptLine) where
  -- a text of the code's run, behind a replay that ends with this status
  pub record IsDueAs (status : Status) (text : List ℕ) : Type 0 where
    pub some : status ≢ NoMemory
    pub replayed : IsReplayed (play_in code initial seed session) lines status
    pub terms : List Tree
    pub are : register_terms p role code ≡ Some terms
    pub is : text ≡ trace (subject_by (job_by p role initial seed) code terms) initial seed session (arrivals_of lines) ++ differing_line status

  -- what is written by then
  abbrev pub HasComeOf : Status → (written written_now : Option (List ℕ)) → Type 0
  HasComeOf (FileFault name) written written_now = ⊥
  HasComeOf ReadFault written written_now = ⊥
  HasComeOf (ChildFault child) written written_now = ⊥
  HasComeOf (ChildSilent child seconds) written written_now = ⊥
  HasComeOf (Unwritten file) written written_now = ⊥
  HasComeOf (Unreached place) written written_now = written_now ≡ written
  HasComeOf WriteFault written written_now = (status : Status) × (text : List ℕ) × IsDueAs status text × PutPrefix written written_now text
  HasComeOf NoMemory written written_now =
      (written_now ≡ written) ⊎ ((status : Status) × (text : List ℕ) × IsDueAs status text × PutPrefix written written_now text)
  HasComeOf status written written_now = (text : List ℕ) × IsDueAs status text × Put written written_now text

-- how a command ends at a place that was reached: as the replay, by a fault of writing, or for want of memory
abbrev pub EndsAs : Status → (old new : WireState) → Type 0
EndsAs status old new =
    ((end : ReplayEnd) × (status ≡ status_of end) × (new.write_faults ≡ old.write_faults))
    ⊎ (((status ≡ WriteFault) × Rose old.write_faults new.write_faults)
    ⊎ ((status ≡ NoMemory) × (new.write_faults ≡ old.write_faults)))

-- the status of a trace that was written so, behind a replay with this status
abbrev pub ended_by : Result (Unit {0}) WriteNo → Status → Status
ended_by (Ok y) status = status
ended_by (Err writing.Failed) status = WriteFault
ended_by (Err writing.NoMemory) status = NoMemory
