-- The codes of a role in all arms, and why there are none.
use Rattle.std.specs.Prelude.{◌≡◌, ◌<◌, ◌+◌, ℕ, List, length, take, Some, slice_get, All}
use Rattle.std.specs.List.{AllZip}
use Rattle.anb_code.specs.CodeValue.{CodeValue}
use Rattle.anb_protocol.specs.Protocols.{ProtocolValue, role_number}
use Rattle.anb_compile.specs.Fitting.{FitsRole}
use Rattle.anb_protocol.specs.Plays.{IsSendable}
use Rattle.anb_compile.specs.Unsent.{IsFirstUnsentOfAll}
use Rattle.anb_branch.specs.declared.compiling.ArmNo.{ArmNo}
use Rattle.anb_branch.specs.declared.compiling.ArmNo.TheVariants.{CannotSend, NoMemory}

-- one code for each arm, in order, for the role with this name in the arm's protocol
abbrev pub FitArms : List ProtocolValue → (role : List ℕ) → List CodeValue → Type 0
FitArms arms role codes =
    AllZip (λ (arm : ProtocolValue) (code : CodeValue).
    FitsRole arm (role_number arm.roles role) code) arms codes

-- why an arm with this number has no code: this is its first action that can't be sent, by the role
-- with this name
abbrev pub RefusesArm : ProtocolValue → ℕ → ArmNo → Type 0
RefusesArm arm number (CannotSend n action name) =
    (n ≡ number)
    × ((sender : ℕ) × (slice_get arm.roles sender ≡ Some name)
    × IsFirstUnsentOfAll arm sender action)
RefusesArm arm number NoMemory = Unit {0}

-- the first arm in which some role can't send all. Arms are numbered from 1
pub record IsFirstRefused (arms : List ProtocolValue) (number : ℕ) (no : ArmNo) : Type 0 where
  pub place : ℕ
  pub is : number ≡ place + 1
  pub arm : ProtocolValue
  pub here : slice_get arms place ≡ Some arm
  pub refused : RefusesArm arm number no
  pub first : All IsSendable (take place arms)

abbrev pub RefusesArms : List ProtocolValue → ArmNo → Type 0
RefusesArms arms (CannotSend number action name) =
    IsFirstRefused arms number (CannotSend number action name)
RefusesArms arms NoMemory = Unit {0}

-- for proofs alone: each arm has a role with this name
abbrev pub HaveRole : List ProtocolValue → List ℕ → Type 0
HaveRole arms role =
    All (λ (arm : ProtocolValue). role_number arm.roles role < length arm.roles) arms
