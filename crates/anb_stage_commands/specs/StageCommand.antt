-- What `stage` does: it relays among child programs, one for each role, and writes a report.
use Rattle.std.specs.Prelude.{◌≡◌, ◌⊎◌, ℕ, Bool, true, ◌<◌, List, [], length, get_or, Option, Some, None}
use Rattle.anb_base.specs.Moves.{Rose}
use Rattle.anb_base.specs.Wires.{WireState}
use Rattle.anb_base.specs.declared.place.Place.TheVariants.{Stdio}
use Rattle.anb_frame.specs.Cuts.{Tail}
use Rattle.anb_protocol.specs.Protocols.{ProtocolValue}
use Rattle.anb_stage.specs.Children.{Child}
use Rattle.anb_stage.specs.Due.{AreTold, due_of}
use Rattle.anb_stage.specs.Relays.{AreCut, IsRefused, IsRelayed, ends_in, missing, report}
use Rattle.anb_stage.specs.declared.refusal.RelayNo.{RelayNo}
use Rattle.anb_stage.specs.declared.refusal.RelayNo.TheVariants as no
use Rattle.anb_status.specs.declared.status.Status.{Status}
use Rattle.anb_status.specs.declared.status.Status.TheVariants.{Done, ChildFault, ChildSilent, ChildEnded, ChildCut, ChildLong, ChildBad, NoMemory}
use Rattle.anb_command.specs.Causes.{HasCause}
use Rattle.anb_command.specs.Fetches.{Files, IfTold}
use Rattle.anb_command.specs.Steps.{Answer, InTurn, IsFailure, given, refused}
use Rattle.anb_command.specs.Writing.{IsWritingOne, IsWritten}
use Rattle.anb_stage_commands.specs.Scenes.{IsReadForScene, Scene, SceneInFiles}
use Rattle.anb_stage_commands.specs.Reports.{report_text}
use Rattle.anb_stage_commands.specs.Words.{Staged}

-- the status of a relay that was refused
abbrev pub status_of : ProtocolValue → RelayNo → Status
status_of p (no.Fault role) = ChildFault (get_or p.roles role [])
status_of p (no.Ended action) = ChildEnded action
status_of p (no.Cut action have need) = ChildCut action have need
status_of p (no.Long action len) = ChildLong action len
status_of p (no.Bad role status) = ChildBad (get_or p.roles role []) status
status_of p no.NoMemory = NoMemory

-- the status of a fault of a role's child, by the limit that is said and by whether it was silent
abbrev pub fault_status : (role : List ℕ) → (limit : Option ℕ) → (silent : Bool) → Status
fault_status role (Some seconds) true = ChildSilent role seconds
fault_status role limit silent = ChildFault role

-- the status of a refused relay that left these children
abbrev pub status_after : Option ℕ → (ℕ → Child) → ProtocolValue → RelayNo → Status
status_after limit children p (no.Fault role) =
    fault_status (get_or p.roles role []) limit (children role).silent
status_after limit children p refusal = status_of p refusal

module _ (s : Staged) (files : Files) where
  -- for the frames in the output of each role's child, how it ends behind them, and its status
  module _ (outputs : ℕ → List (List ℕ)) (tails : ℕ → Tail) (statuses : ℕ → ℕ) where
    -- they are those of the children of the protocol's roles
    abbrev pub AreToldOf : (ℕ → Child) → Type 0
    AreToldOf children =
        (z : Scene) → SceneInFiles files s (given z)
        → AreTold outputs tails statuses (length z.protocol.roles) children

    -- what is due of a protocol: the refusal of its relay, or the report of it
    abbrev pub answer_of : Scene → Option RelayNo → Answer (List ℕ)
    answer_of z (Some refusal) = refused (status_of z.protocol refusal)
    answer_of z None = given (report_text (report outputs (ends_in z.protocol)))

    abbrev pub StageOf : Scene → Answer (List ℕ) → Type 0
    StageOf z answer =
        answer ≡ answer_of z (due_of outputs tails statuses (length z.protocol.roles) (ends_in z.protocol))

    -- the refusal of the narration's file, or of a role with a program, or what is due of its protocol
    abbrev pub StageText : Answer (List ℕ) → Type 0
    StageText = InTurn (SceneInFiles files s) StageOf

-- between these children, and these bytes that are written
module _ (s : Staged) (old new : ℕ → Child) (written written_now : Option (List ℕ)) where
  -- nothing is asked of a child, and nothing is written
  pub record IsIdle : Type 0 where
    pub children : (role : ℕ) → role < 32 → new role ≡ old role
    pub unwritten : written_now ≡ written

  -- the relay is refused, and nothing is written
  pub record IsRefusedAs (z : Scene) (status : Status) : Type 0 where
    pub refusal : RelayNo
    pub is : status ≡ status_after s.limit new z.protocol refusal
    pub refuses : IsRefused (length z.protocol.roles) old new z.asked (ends_in z.protocol) refusal
    pub unwritten : written_now ≡ written

  -- what writing the report leaves; there may be no memory for it
  abbrev pub IsReport : List ℕ → Status → Type 0
  IsReport text NoMemory = written_now ≡ written
  IsReport text status = IsWritten text status written written_now

  -- all is relayed, and the report is that of the messages, wherever the children's outputs are told
  pub record IsRelayedAs (z : Scene) (status : Status) : Type 0 where
    pub relays : IsRelayed (length z.protocol.roles) old new z.asked (ends_in z.protocol)
    pub text : List ℕ
    pub tells : (outputs : ℕ → List (List ℕ)) (tails : ℕ → Tail)
        → AreCut (length z.protocol.roles) old outputs tails
        → text ≡ report_text (report outputs (ends_in z.protocol))
    pub writes : IsReport text status

  -- The narration's file is refused, or a role with a program; or it tells a protocol with these roles,
  -- which can all send, and the relay among their children is refused, or is whole and reported.
  abbrev pub IsStaged : Files → Status → Type 0
  IsStaged files status =
      (IsFailure status (IsReadForScene files s) (SceneInFiles files s (refused status))
      × IsIdle)
      ⊎ ((z : Scene) × SceneInFiles files s (given z)
      × (IsRefusedAs z status ⊎ IsRelayedAs z status))

  -- Where the children are told too, the status and what is written are those that are due, in both
  -- directions: no other refusal, and no other report, could come.
  abbrev pub IsAnswered : Files → Status → Type 0
  IsAnswered files status =
      (outputs : ℕ → List (List ℕ)) (tails : ℕ → Tail) (statuses : ℕ → ℕ)
      → AreToldOf s files outputs tails statuses old
      → IsWritingOne (StageText s files outputs tails statuses) status written written_now

  pub record DoesStage (told : Option Files) (status : Status) : Type 0 where
    pub stages : IfTold told (λ files. IsStaged files status)
    pub answers : IfTold told (λ files. IsAnswered files status)

-- no message is missing, and each child ends with status 0
pub record AllGoWell (z : Scene) (children : ℕ → Child) : Type 0 where
  pub outputs : ℕ → List (List ℕ)
  pub tails : ℕ → Tail
  pub cut : AreCut (length z.protocol.roles) children outputs tails
  pub none : missing outputs tails (ends_in z.protocol) ≡ None
  pub good : (role : ℕ) → role < length z.protocol.roles → (children role).status ≡ Some 0

-- then all is done, where nothing failed and memory wasn't wanting
abbrev pub CompletesStage : Staged → (ℕ → Child) → Option Files → Status → Type 0
CompletesStage s children told status = IfTold told (λ files.
    (z : Scene) → SceneInFiles files s (given z) → AllGoWell z children
    → (status ≡ Done) ⊎ (status ≡ NoMemory))

-- the count of a role's child rose, and this is its status
abbrev pub HasChildFault : Option ℕ → (old new : ℕ → Child) → (name : List ℕ) → Status → Type 0
HasChildFault limit old new name status =
    (role : ℕ) × (role < 32) × Rose (old role).faults (new role).faults
    × (status ≡ fault_status name limit (new role).silent)

-- A fault of a child, or that it was silent, is answered only where the count of a role's child rose,
-- and all else as by the other commands.
abbrev pub HasStageCause : Option ℕ → (names : List (List ℕ)) → (faults faults_now : List ℕ → ℕ)
    → (children children_now : ℕ → Child) → (old new : WireState) → Status → Type 0
HasStageCause limit names faults faults_now children children_now old new (ChildFault name) =
    HasChildFault limit children children_now name (ChildFault name)
HasStageCause limit names faults faults_now children children_now old new (ChildSilent name seconds) =
    HasChildFault limit children children_now name (ChildSilent name seconds)
HasStageCause limit names faults faults_now children children_now old new status =
    HasCause names (Some Stdio) faults faults_now old new status

-- no count of a child rose
abbrev pub NoChildRose : (children children_now : ℕ → Child) → Type 0
NoChildRose children children_now =
    (role : ℕ) → role < 32 → Rose (children role).faults (children_now role).faults → ⊥
