-- A code and lines that can be compared.
use Rattle.std.specs.Prelude.{◌≡◌, ◌⊎◌, ℕ, List}
use Rattle.std.specs.List.{AllByRecursion}
use Rattle.anb_base.specs.Bytes.{IsBytes}
use Rattle.anb_base.specs.declared.place.Place.TheVariants.{Stdio}
use Rattle.anb_code.specs.CodeValue.{CodeValue}
use Rattle.anb_plays.specs.Plays.{Played}
use Rattle.anb_transcript.specs.Replays.{Replays, arrivals_of}
use Rattle.anb_transcript.specs.declared.following.ReplayEnd.{ReplayEnd}
use Rattle.anb_transcript.specs.declared.transcript.TranscriptLine.{TranscriptLine}
use Rattle.anb_status.specs.declared.status.Status.{Status}
use Rattle.anb_status.specs.declared.status.Status.TheVariants.{Unreached}
use Rattle.anb_command.specs.Prepared.{IsRunBy}
use Rattle.anb_command.specs.Steps.{Answer, given}
use Rattle.anb_role_commands.specs.Playing.{PlayIn, play_in}
use Rattle.anb_role_commands.specs.ReplayCommand.{Comparison, status_of}

-- there is something to compare, the code plays it in each session, and these are its lines
pub record IsComparable (Prepares : Answer Comparison → Type 0) (code : CodeValue) (initial : List (List ℕ)) (seed : List ℕ)
    (lines : List TranscriptLine) : Type 0 where
  pub asked : Comparison
  pub asks : Prepares (given asked)
  pub comes : (session : ℕ) → IsRunBy (PlayIn session) asked.job (play_in code initial seed session)
  pub same : asked.lines ≡ lines
  pub bytes : AllByRecursion IsBytes (arrivals_of lines)

-- the status of a replay of these lines over a run
abbrev pub IsReplayed : (List (List ℕ) → Played (List ℕ)) → List TranscriptLine → Status → Type 0
IsReplayed R lines status = (end : ReplayEnd) × Replays R lines end × (status ≡ status_of end)

-- or the standard streams aren't reached
abbrev pub IsCompared : (List (List ℕ) → Played (List ℕ)) → List TranscriptLine → Status → Type 0
IsCompared R lines status = (status ≡ Unreached Stdio) ⊎ IsReplayed R lines status
