-- What the relay of a protocol comes to, before anything is written.
use Rattle.std.specs.Prelude.{◌≡◌, ◌⊎◌, ℕ, ◌<◌, List, length, Option}
use Rattle.anb_base.specs.Moves.{Rose}
use Rattle.anb_frame.specs.Cuts.{Tail}
use Rattle.anb_stage.specs.Children.{Child}
use Rattle.anb_stage.specs.Relays.{AreCut, IsRefused, IsRelayed, ends_in, report}
use Rattle.anb_stage.specs.declared.refusal.RelayNo.{RelayNo}
use Rattle.anb_stage.specs.declared.refusal.RelayNo.TheVariants as no
use Rattle.anb_status.specs.declared.status.Status.{Status}
use Rattle.anb_status.specs.declared.status.Status.TheVariants.{Usage, FileFault, ChildFault, ChildSilent, Unwritten, NoMemory}
use Rattle.anb_command.specs.Fetches.{Files, IfTold, IsOneOf}
use Rattle.anb_status.specs.Statuses.{before_reach, phase_of}
use Rattle.anb_command.specs.Steps.{IsFailure, given, refused}
use Rattle.anb_stage_commands.specs.Scenes.{IsReadForScene, Scene, SceneInFiles}
use Rattle.anb_stage_commands.specs.Reports.{report_text}
use Rattle.anb_stage_commands.specs.StageCommand.{HasChildFault, status_after}
use Rattle.anb_stage_commands.specs.Words.{Staged, staged_files}

-- the roles of a refusal are among so many
abbrev pub IsNamed : ℕ → RelayNo → Type 0
IsNamed roles (no.Fault role) = role < roles
IsNamed roles (no.Bad role status) = role < roles
IsNamed roles refusal = Unit {0}

-- a refusal before the place is reached, or want of memory
abbrev pub IsBefore : Status → Type 0
IsBefore status = ((phase_of status ≡ before_reach) × (status ≡ Usage → ⊥)) ⊎ (status ≡ NoMemory)

-- a fault of a child
abbrev pub HasChildCause : Option ℕ → (old new : ℕ → Child) → Status → Type 0
HasChildCause limit old new (ChildFault name) = HasChildFault limit old new name (ChildFault name)
HasChildCause limit old new (ChildSilent name seconds) =
    HasChildFault limit old new name (ChildSilent name seconds)
HasChildCause limit old new (FileFault file) = ⊥
HasChildCause limit old new (Unwritten file) = ⊥
HasChildCause limit old new status = Unit {0}

module _ (s : Staged) (old new : ℕ → Child) where
  pub record Relays (z : Scene) (text : List ℕ) : Type 0 where
    pub relays : IsRelayed (length z.protocol.roles) old new z.asked (ends_in z.protocol)
    pub tells : (outputs : ℕ → List (List ℕ)) (tails : ℕ → Tail)
        → AreCut (length z.protocol.roles) old outputs tails
        → text ≡ report_text (report outputs (ends_in z.protocol))

  pub record RefusesAs (z : Scene) (status : Status) : Type 0 where
    pub refusal : RelayNo
    pub is : status ≡ status_after s.limit new z.protocol refusal
    pub refuses : IsRefused (length z.protocol.roles) old new z.asked (ends_in z.protocol) refusal

  -- it is refused, or there is no memory for the report
  abbrev pub FailsRelaying : Scene → Status → Type 0
  FailsRelaying z status =
      RefusesAs z status ⊎ ((status ≡ NoMemory) × ((text : List ℕ) × Relays z text))

  abbrev pub Stay : Type 0
  Stay = (role : ℕ) → role < 32 → new role ≡ old role

  module _ (told : Option Files) where
    abbrev pub RelaysInFile : List ℕ → Type 0
    RelaysInFile text = IfTold told (λ files.
        (z : Scene) × SceneInFiles files s (given z) × Relays z text)

    abbrev pub FailsInFile : Status → Type 0
    FailsInFile status = IfTold told (λ files.
        (IsFailure status (IsReadForScene files s) (SceneInFiles files s (refused status)) × Stay)
        ⊎ ((z : Scene) × SceneInFiles files s (given z) × FailsRelaying z status))

  -- a fault of a file, or of a child
  abbrev pub HasCauseBefore : (faults faults_now : List ℕ → ℕ) → Status → Type 0
  HasCauseBefore faults faults_now (FileFault file) =
      IsOneOf (staged_files s) file × Rose (faults file) (faults_now file)
  HasCauseBefore faults faults_now (ChildFault name) =
      HasChildFault s.limit old new name (ChildFault name)
  HasCauseBefore faults faults_now (ChildSilent name seconds) =
      HasChildFault s.limit old new name (ChildSilent name seconds)
  HasCauseBefore faults faults_now (Unwritten file) = ⊥
  HasCauseBefore faults faults_now status = Unit {0}
