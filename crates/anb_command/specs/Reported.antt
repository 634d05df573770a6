-- A fault that occurred is told: the other direction of Causes.
use Rattle.std.specs.Prelude.{◌≡◌, ◌<◌, ℕ, List, Bool, true, false, Result, Ok, Err}
use Rattle.anb_base.specs.Wires.{WireState}
use Rattle.anb_base.specs.declared.place.Place.{Place}
use Rattle.anb_status.specs.declared.status.Status.{Status}
use Rattle.anb_status.specs.declared.status.Status.TheVariants.{FileFault, Unreached, ReadFault, WriteFault}

-- a fault of a file
abbrev pub is_file_fault : Status → Bool
is_file_fault (FileFault file) = true
is_file_fault status = false

abbrev pub fails_by_file : {A : Type 0} → Result A Status → Bool
fails_by_file (Ok a) = false
fails_by_file (Err status) = is_file_fault status

-- no count of a file's faults moved, unless a file's fault is answered
abbrev pub TellsFileFaults : {A : Type 0} → Result A Status → (faults faults_now : List ℕ → ℕ) → Type 0
TellsFileFaults answer faults faults_now = fails_by_file answer ≡ false → faults_now ≡ faults

-- where a count of the wire rose, the status is that fault's
pub record TellsWireFaults (old new : WireState) (status : Status) : Type 0 where
  pub reads : old.read_faults < new.read_faults → status ≡ ReadFault
  pub writes : old.write_faults < new.write_faults → status ≡ WriteFault
  pub reaches : old.reach_faults < new.reach_faults → (place : Place) × (status ≡ Unreached place)

-- both, of a whole command
pub record TellsFaults (faults faults_now : List ℕ → ℕ) (old new : WireState) (status : Status) : Type 0 where
  pub files : is_file_fault status ≡ false → faults_now ≡ faults
  pub wire : TellsWireFaults old new status
