-- A code that plays a role.
use Rattle.std.specs.Prelude.{◌≡◌, ℕ, List}
use Rattle.anb_plays.specs.Plays.{Played}
use Rattle.anb_plays.specs.Runs.{without_place}
use Rattle.anb_code.specs.CodeValue.{CodeValue}
use Rattle.anb_code.specs.Taking.{take_texts}
use Rattle.anb_machine.specs.ByteRuns.{run_bytes}
use Rattle.anb_protocol.specs.Plays.{IsPlay}
use Rattle.anb_protocol.specs.Protocols.{ProtocolValue}
use Rattle.anb_protocol.specs.Texts.{known_texts}
use Rattle.anb_command.specs.Prepared.{IsReady, IsRunBy}
use Rattle.anb_command.specs.Steps.{Answer, given}
use Rattle.anb_role_commands.specs.Jobs.{Job}
use Rattle.anb_role_commands.specs.PlayCommand.{PlayOf}

-- a code's run in session 0, as a play tells it
abbrev pub play_by : CodeValue → (initial : List (List ℕ)) → (seed : List ℕ) → List (List ℕ) → Played (List ℕ)
play_by code initial seed arrivals = without_place (run_bytes code initial seed 0 arrivals)

-- there is something to play, and the code plays it
abbrev pub IsPlayable : (Answer Job → Type 0) → CodeValue → (initial : List (List ℕ)) → (seed : List ℕ) → Type 0
IsPlayable Prepares code initial seed = IsReady PlayOf Prepares (play_by code initial seed)

-- what is asked has these initial values and this seed, the code's takes have the texts of what its role
-- knows, and the code plays it
pub record IsPreparedFor (Prepares : Answer Job → Type 0) (code : CodeValue) (initial : List (List ℕ)) (seed : List ℕ) : Type 0 where
  pub protocol : ProtocolValue
  pub role : ℕ
  pub asks : Prepares (given (record { protocol = protocol; role = role; initial = initial; seed = seed }))
  pub texts : take_texts code.instrs ≡ known_texts protocol role
  pub comes : IsRunBy PlayOf (record { protocol = protocol; role = role; initial = initial; seed = seed }) (play_by code initial seed)

-- ---- in any session

abbrev pub PlayIn : (session : ℕ) → Job → List (List ℕ) → Played (List ℕ) → Type 0
PlayIn session job arrivals p = IsPlay job.protocol job.role job.initial job.seed session arrivals p

abbrev pub play_in : CodeValue → (initial : List (List ℕ)) → (seed : List ℕ) → (session : ℕ) → List (List ℕ) → Played (List ℕ)
play_in code initial seed session arrivals = without_place (run_bytes code initial seed session arrivals)

-- there is something to play, and the code plays it in each session
pub record IsPlayableInEach (Prepares : Answer Job → Type 0) (code : CodeValue) (initial : List (List ℕ)) (seed : List ℕ) : Type 0 where
  pub asked : Job
  pub asks : Prepares (given asked)
  pub comes : (session : ℕ) → IsRunBy (PlayIn session) asked (play_in code initial seed session)
