-- How a role of a narration is compiled, and why it isn't.
use Rattle.std.specs.Prelude.{◌≡◌, ◌≢◌, ◌⊎◌, ◌≤◌, ◌<◌, ℕ, ℤ, pos, List, length, take, Option, Some, None}
use Rattle.anb_base.specs.declared.TheConstants.{ARRIVAL, SMALL_FILE, WIDE}
use Rattle.anb_syntax.specs.Grammar.{Narration}
use Rattle.anb_syntax.specs.Text.{Text}
use Rattle.anb_read.specs.Refusals.{IsRefusal, offset}
use Rattle.anb_read.specs.declared.refusal.ReadNo.TheVariants as reading
use Rattle.anb_protocol.specs.Checks.{fault}
use Rattle.anb_protocol.specs.Plays.{IsSendable}
use Rattle.anb_protocol.specs.Protocols.{ProtocolValue, protocol_of, role_named}
use Rattle.anb_protocol.specs.declared.refusals.ResolveNo.TheVariants as resolving
use Rattle.anb_code.specs.CodeValue.{CodeValue}
use Rattle.anb_compile.specs.Fitting.{FitsRole}
use Rattle.anb_compile.specs.Laws.{FittingCodesPlay}
use Rattle.anb_compile.specs.Unsent.{IsFirstUnsentOfAll}
use Rattle.anb_text.specs.Refusals.{IsRefusal as IsFault}
use Rattle.anb_text.specs.RoleFiles.{role_text}
use Rattle.anb_text.specs.declared.refusal.LoadNo.{LoadNo}
use Rattle.anb_text.specs.declared.refusal.LoadNo.TheVariants as loading
use Rattle.anb_c.specs.declared.compiling.CompileNo.{CompileNo}
use Rattle.anb_c.specs.declared.compiling.CompileNo.TheVariants.{Long, Unread, IllFormed, NoRole, CannotSend, NoMemory}
use Rattle.anb_c.specs.Opening.{Spells}

-- the narration's text tells this protocol
pub record Tells (narration : List ℕ) (p : ProtocolValue) : Type 0 where
  pub is : Narration
  pub text : Text is narration
  pub well_formed : fault ARRIVAL WIDE is ≡ None
  pub protocol : p ≡ protocol_of is

-- why it tells none
abbrev pub RefusesReading : List ℕ → CompileNo → Type 0
RefusesReading narration Long = SMALL_FILE < length narration
RefusesReading narration (Unread why) = (why ≢ reading.NoMemory) × IsRefusal narration why
RefusesReading narration (IllFormed why) =
    (is : Narration) × Text is narration × (why ≢ resolving.NoMemory) × (fault ARRIVAL WIDE is ≡ Some why)
RefusesReading narration NoMemory = Unit {0}
RefusesReading narration _ = ⊥

-- why not all its roles can send
abbrev pub RefusesSending : ProtocolValue → CompileNo → Type 0
RefusesSending p (CannotSend action) = (sender : ℕ) × IsFirstUnsentOfAll p sender action
RefusesSending p NoMemory = Unit {0}
RefusesSending p _ = ⊥

-- The file spells this code, so whoever opens it has this one and no other. It has no fault
pub record IsReadAs (file : List ℕ) (code : CodeValue) : Type 0 where
  pub spelled : Spells file code
  pub alone : (other : CodeValue) → Spells file other → other ≡ code
  pub faultless : (why : LoadNo) → why ≢ loading.NoMemory → IsFault file why → ⊥

module _ (narration role : List ℕ) where
  -- The role file of a code that fits the role of this name, in a protocol whose roles can all send what
  -- they must. The run of a code that fits is the role's play. `anb_open` reads the file as that code.
  pub record Compiles (file : List ℕ) : Type 0 where
    pub p : ProtocolValue
    pub tells : Tells narration p
    pub number : ℕ
    pub named : role_named p role ≡ Some number
    pub sendable : IsSendable p
    pub code : CodeValue
    pub fits : FitsRole p number code
    pub plays : FittingCodesPlay p
    pub is : file ≡ role_text code
    pub read : IsReadAs file code

  -- why there is none: the first that holds
  abbrev pub RefusesCompiling : CompileNo → Type 0
  RefusesCompiling NoRole = (p : ProtocolValue) × Tells narration p × (role_named p role ≡ None)
  RefusesCompiling (CannotSend action) =
      (p : ProtocolValue) × Tells narration p × (number : ℕ) × (role_named p role ≡ Some number)
      × RefusesSending p (CannotSend action)
  RefusesCompiling why = RefusesReading narration why

-- where the text can't be read, or the action whose message can't be composed
abbrev pub place_of : CompileNo → ℕ
place_of (Unread why) = offset why
place_of (CannotSend action) = action
place_of why = 0

-- how each refusal is told; 99 is want of memory
abbrev pub status_of : CompileNo → ℕ
status_of Long = 3
status_of (Unread why) = 4
status_of (IllFormed why) = 4
status_of NoRole = 5
status_of (CannotSend action) = 6
status_of NoMemory = 99

-- `anb_compile` writes the role file, or tells its length where there is no room, or why there is none
abbrev pub IsCompiling : (narration role : List ℕ) → (status : ℤ) → (out out_now : List ℕ) → (written place : ℕ) → Type 0
IsCompiling narration role status out out_now written place =
    ((status ≡ pos 0) × (written ≤ length out_now) × Compiles narration role (take written out_now))
    ⊎ ((status ≡ pos 101) × (length out_now < written) × (out_now ≡ out)
    × (file : List ℕ) × Compiles narration role file × (written ≡ length file))
    ⊎ ((why : CompileNo) × (status ≡ pos (status_of why)) × RefusesCompiling narration role why
    × (place ≡ place_of why) × (out_now ≡ out))
