-- For proofs alone: a task that was read from files, and what is answered.
use Rattle.std.specs.Prelude.{◌≡◌, ◌≢◌, ◌⊎◌, ◌+◌, ◌<◌, ◌≤◌, ◌^◌, ℕ, List, length, All}
use Rattle.std.specs.List.{AllByRecursion}
use Rattle.anb_base.specs.Bytes.{IsBytes}
use Rattle.anb_base.specs.declared.TheConstants.{ARRIVAL}
use Rattle.anb_base.specs.declared.place.Place.TheVariants.{Stdio}
use Rattle.anb_judge.specs.Verdicts.{Judged, Judges, line_bytes}
use Rattle.anb_protocol.specs.Protocols.{ProtocolValue}
use Rattle.anb_protocol.specs.Texts.{known_by}
use Rattle.anb_transcript.specs.declared.following.ReplayEnd.{ReplayEnd}
use Rattle.anb_transcript.specs.declared.following.ReplayEnd.TheVariants as replayed
use Rattle.anb_transcript.specs.declared.transcript.TranscriptLine.{TranscriptLine}
use Rattle.anb_status.specs.declared.status.Status.{Status}
use Rattle.anb_status.specs.declared.status.Status.TheVariants.{Unreached}
use Rattle.anb_role_commands.specs.ReplayCommand.{status_of}

abbrev pub judged_by : ProtocolValue → ℕ → List (List ℕ) → List TranscriptLine → Judged
judged_by p role initial lines = record { protocol = p; role = role; initial = initial; lines = lines }

-- it can be judged
pub record CanJudge (judged : Judged) : Type 0 where
  pub role : judged.role < length judged.protocol.roles
  pub count : length judged.initial ≡ length (known_by judged.protocol judged.role)
  pub bytes : AllByRecursion IsBytes judged.initial
  pub short : All (λ value. length value ≤ ARRIVAL) judged.initial
  pub few : length judged.lines + 1 < 2 ^ 32
  pub lines : All (λ line. length (line_bytes line) ≤ ARRIVAL) judged.lines

-- the status of a judgement that ended so; want of memory says nothing
abbrev pub IsEndOf : Judged → Status → Type 0
IsEndOf judged status =
    (end : ReplayEnd) × (end ≢ replayed.NoMemory → Judges judged end) × (status ≡ status_of end)

-- or the standard streams aren't reached
abbrev pub IsJudged : Judged → Status → Type 0
IsJudged judged status = (status ≡ Unreached Stdio) ⊎ IsEndOf judged status
