-- What `trace` does: it tells what a role does in a session over the arrivals of a transcript, and ends as `replay`.
use Rattle.std.specs.Prelude.{◌≡◌, ◌⊎◌, ℕ, true, false, List, [], ◌++◌, take, Option, Some}
use Rattle.anb_base.specs.Moves.{Put}
use Rattle.anb_base.specs.Wires.{WireState}
use Rattle.anb_base.specs.declared.TheConstants.{ARRIVAL, WIDE}
use Rattle.anb_code.specs.CodeValue.{CodeValue}
use Rattle.anb_code.specs.Verified.{IsVerifiedCode}
use Rattle.anb_compile.specs.Fitting.{FitsRole}
use Rattle.anb_explain.specs.Explained.{line, register_terms}
use Rattle.anb_plays.specs.Plays.{Played}
use Rattle.anb_plays.specs.Runs.{without_place}
use Rattle.anb_protocol.specs.Plans.{plan_of}
use Rattle.anb_term.specs.Tree.{Tree}
use Rattle.anb_trace.specs.Laws.{TellsRun}
use Rattle.anb_trace.specs.Traces.{trace}
use Rattle.anb_trace.specs.Words.{SubjectValue}
use Rattle.anb_transcript.specs.Replays.{arrivals_of}
use Rattle.anb_status.specs.declared.status.Status.{Status}
use Rattle.anb_status.specs.declared.status.Status.TheVariants.{FileFault, Unreached, WriteFault, Differs, NoMemory}
use Rattle.anb_command.specs.Fetches.{Files, IfTold}
use Rattle.anb_command.specs.Refusing.{IsRefusing}
use Rattle.anb_status.specs.Statuses.{is_fault, text_of}
use Rattle.anb_command.specs.Steps.{Answer, refused, given}
use Rattle.anb_role_commands.specs.Jobs.{Job}
use Rattle.anb_role_commands.specs.Playing.{PlayIn}
use Rattle.anb_role_commands.specs.ReplayCommand.{Comparison, ComparisonIs, Compares, IsReadToCompare}

-- the first line of the transcript that isn't due, as `replay` tells it
abbrev pub differing_line : Status → List ℕ
differing_line (Differs number due) = line (text_of (Differs number due))
differing_line status = []

-- a code for the role of a job, with the terms of its registers
abbrev pub subject_by : Job → CodeValue → List Tree → SubjectValue
subject_by job code terms = record { protocol = job.protocol; plan = plan_of job.protocol job.role; code = code; terms = terms }

-- The trace tells the role's play in the session: its messages and the arrivals that it uses, each with its bytes below its event, and how
-- it ends, of a stop with the instruction and why it failed.
pub record TellsPlay (session : ℕ) (asked : Comparison) (subject : SubjectValue) (traced : List ℕ) : Type 0 where
  pub play : Played (List ℕ)
  pub plays : PlayIn session asked.job (arrivals_of asked.lines) play
  pub run : Played (List ℕ)
  pub same : without_place run ≡ play
  pub tells : TellsRun subject 0 (arrivals_of asked.lines) traced run

-- The trace of the run of some code that is accepted and fits the role, over all arrivals of the transcript, and then
-- the first line that isn't due, where the replay ends with that status.
pub record IsTraced (session : ℕ) (asked : Comparison) (status : Status) (text : List ℕ) : Type 0 where
  pub code : CodeValue
  pub accepted : IsVerifiedCode ARRIVAL WIDE code
  pub fits : FitsRole asked.job.protocol asked.job.role code
  pub terms : List Tree
  pub are : register_terms asked.job.protocol asked.job.role code ≡ Some terms
  pub traced : List ℕ
  pub traces : traced ≡ trace (subject_by asked.job code terms) asked.job.initial asked.job.seed session (arrivals_of asked.lines)
  pub tells : TellsPlay session asked (subject_by asked.job code terms) traced
  pub is : text ≡ traced ++ differing_line status

-- the status is that of the replay
pub record IsTracedTo (session : ℕ) (asked : Comparison) (status : Status) (text : List ℕ) : Type 0 where
  pub compares : Compares session asked status
  pub traced : IsTraced session asked status text

module _ (session : ℕ) (Asks : Answer Comparison → Type 0) where
  -- the status and what is written, where no fault comes
  abbrev pub Outcome : Status → (out : List ℕ) → Type 0
  Outcome status out =
      (Asks (refused status) × (out ≡ []))
      ⊎ ((asked : Comparison) × Asks (given asked) × IsTracedTo session asked status out)

  -- a prefix of a text that is due
  abbrev pub WritesPart : (out : List ℕ) → Type 0
  WritesPart out =
      (asked : Comparison) × Asks (given asked)
      × ((status : Status) × (text : List ℕ) × IsTracedTo session asked status text × ((n : ℕ) × (out ≡ take n text)))

  -- what is written where a fault comes, or memory is wanting
  abbrev pub CutShort : Status → (out : List ℕ) → Type 0
  CutShort WriteFault out = WritesPart out
  CutShort NoMemory out = (out ≡ []) ⊎ WritesPart out
  CutShort (Unreached place) out = ((asked : Comparison) × Asks (given asked)) × (out ≡ [])
  CutShort (FileFault name) out = out ≡ []
  CutShort status out = ⊥

  -- Codes that fit are more than one, so more than one text may be due.
  pub record IsTracing (result : Status) (written written_now : Option (List ℕ)) : Type 0 where
    -- the status and what is written are an outcome
    pub is : is_fault result ≡ false → (out : List ℕ) × Outcome result out × Put written written_now out
    -- and each outcome has this status
    pub only : is_fault result ≡ false → (status : Status) (out : List ℕ) → Outcome status out → result ≡ status
    pub cut_short : is_fault result ≡ true → (out : List ℕ) × CutShort result out × Put written written_now out

module _ (narration name values transcript : List ℕ) (host_seed : Option (List ℕ)) (session : ℕ) (told : Option Files)
    (old new : WireState) (status : Status) where
  -- what is asked, and what is refused, is as `replay` has it
  pub record DoesTrace : Type 0 where
    pub refuses : IfTold told (λ files.
        IsRefusing (ComparisonIs narration name values transcript host_seed files)
        (IsReadToCompare narration name values transcript host_seed files) status)
    pub outcome : IfTold told (λ files.
        IsTracing session (ComparisonIs narration name values transcript host_seed files) status
        old.written new.written)

  -- where nothing failed and nothing is refused, the status is that of the replay, or memory was wanting
  abbrev pub CompletesTrace : Type 0
  CompletesTrace =
      IfTold told (λ files. (asked : Comparison)
      → ComparisonIs narration name values transcript host_seed files (given asked)
      → Compares session asked status ⊎ (status ≡ NoMemory))
