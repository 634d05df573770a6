-- When a fault may be answered: only where the count of what failed rose in this call.
use Rattle.std.specs.Prelude.{◌≡◌, ℕ, List, Option, Some, None}
use Rattle.anb_base.specs.Moves.{Rose}
use Rattle.anb_base.specs.Wires.{WireState}
use Rattle.anb_base.specs.declared.place.Place.{Place}
use Rattle.anb_status.specs.declared.status.Status.{Status}
use Rattle.anb_status.specs.declared.status.Status.TheVariants.{Usage, FileFault, Unreached, ReadFault, WriteFault, ChildFault, ChildSilent, Unwritten}
use Rattle.anb_command.specs.Fetches.{IsOneOf}

-- of the wire, which is reached at this place; words that fit no command have none. No child is there
abbrev pub HasWireCause : Option Place → (old new : WireState) → Status → Type 0
HasWireCause place old new (Unreached at) = (place ≡ Some at) × Rose old.reach_faults new.reach_faults
HasWireCause place old new ReadFault = Rose old.read_faults new.read_faults
HasWireCause place old new WriteFault = Rose old.write_faults new.write_faults
HasWireCause place old new (FileFault file) = ⊥
HasWireCause place old new (ChildFault role) = ⊥
HasWireCause place old new (ChildSilent role seconds) = ⊥
HasWireCause place old new (Unwritten file) = ⊥
HasWireCause place old new Usage = place ≡ None
HasWireCause place old new status = Unit {0}

-- of the wire, or of one of these files
abbrev pub HasCause : (names : List (List ℕ)) → Option Place → (faults faults_now : List ℕ → ℕ)
    → (old new : WireState) → Status → Type 0
HasCause names place faults faults_now old new (FileFault file) =
    IsOneOf names file × Rose (faults file) (faults_now file)
HasCause names place faults faults_now old new status = HasWireCause place old new status

-- the count didn't rise
abbrev pub DidNotRise : ℕ → ℕ → Type 0
DidNotRise before now = Rose before now → ⊥

-- nothing failed: no count of these files, and none of the wire, rose
pub record NoneRose (names : List (List ℕ)) (faults faults_now : List ℕ → ℕ) (old new : WireState)
    : Type 0 where
  pub files : (file : List ℕ) → IsOneOf names file → DidNotRise (faults file) (faults_now file)
  pub reads : DidNotRise old.read_faults new.read_faults
  pub writes : DidNotRise old.write_faults new.write_faults
  pub reaches : DidNotRise old.reach_faults new.reach_faults
