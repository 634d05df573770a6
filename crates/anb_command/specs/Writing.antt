-- Writing one text, and reading nothing from the wire.
use Rattle.std.specs.Prelude.{◌≡◌, ℕ, ◌⊎◌, true, false, List, [], take, Option}
use Rattle.anb_base.specs.Moves.{Put, PutPrefix}
use Rattle.anb_status.specs.declared.status.Status.{Status}
use Rattle.anb_status.specs.declared.status.Status.TheVariants.{Done, FileFault, Unreached, WriteFault, ChildFault, ChildSilent, NoMemory}
use Rattle.anb_status.specs.Statuses.{is_fault}
use Rattle.anb_command.specs.Steps.{Answer, refused, given}

-- an outcome, where no fault comes: a refusal that is due, or a whole text that is
abbrev pub Writes : (Answer (List ℕ) → Type 0) → Status → List ℕ → Type 0
Writes Due status out = (Due (refused status) × (out ≡ [])) ⊎ (Due (given out) × (status ≡ Done))

abbrev pub WritesPart : (Answer (List ℕ) → Type 0) → List ℕ → Type 0
WritesPart Due out = (text : List ℕ) × Due (given text) × ((n : ℕ) × (out ≡ take n text))

-- what is written where a fault comes, or memory is wanting
abbrev pub WritesLess : (Answer (List ℕ) → Type 0) → Status → List ℕ → Type 0
WritesLess Due WriteFault out = WritesPart Due out
WritesLess Due NoMemory out = (out ≡ []) ⊎ WritesPart Due out
WritesLess Due (Unreached place) out = ((text : List ℕ) × Due (given text)) × (out ≡ [])
WritesLess Due (FileFault name) out = out ≡ []
WritesLess Due (ChildFault role) out = out ≡ []
WritesLess Due (ChildSilent role seconds) out = out ≡ []
WritesLess Due status out = ⊥

-- A text that is due is written. More than one may be due.
pub record IsWriting (Due : Answer (List ℕ) → Type 0) (result : Status) (written written_now : Option (List ℕ)) : Type 0 where
  -- the status and what is written are an outcome
  pub is : is_fault result ≡ false → (out : List ℕ) × Writes Due result out × Put written written_now out
  -- and each outcome has this status
  pub only : is_fault result ≡ false → (status : Status) (out : List ℕ) → Writes Due status out → result ≡ status
  pub cut_short : is_fault result ≡ true → (out : List ℕ) × WritesLess Due result out × Put written written_now out

-- where no refusal is due, and nothing failed, it is written, or memory was wanting
abbrev pub CompletesText : (Answer (List ℕ) → Type 0) → Status → Type 0
CompletesText Due status = ((s : Status) → Due (refused s) → ⊥) → (status ≡ Done) ⊎ (status ≡ NoMemory)

-- The text that is due is written: each outcome writes the same.
pub record IsWritingOne (Due : Answer (List ℕ) → Type 0) (result : Status) (written written_now : Option (List ℕ)) : Type 0 where
  pub writes : IsWriting Due result written written_now
  pub only : is_fault result ≡ false → (status : Status) (out : List ℕ) → Writes Due status out → Put written written_now out

-- what writing a text to the wire leaves
abbrev pub IsWritten : List ℕ → Status → (written written_now : Option (List ℕ)) → Type 0
IsWritten text Done written written_now = Put written written_now text
IsWritten text WriteFault written written_now = PutPrefix written written_now text
IsWritten text (Unreached place) written written_now = written_now ≡ written
IsWritten text status written written_now = ⊥
