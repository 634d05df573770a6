-- Work before the wire is reached, as steps in order: each refuses with a status, or hands a value on.
use Rattle.std.specs.Prelude.{◌≡◌, ◌⊎◌, ℕ, List}
use Rattle.anb_status.specs.declared.status.Status.{Status}
use Rattle.anb_status.specs.declared.status.Status.TheVariants.{FileFault, NoMemory}

pub data Answer (A : Type 0) : Type 0 where
  refused : Status → Answer A
  given : A → Answer A

-- a step, and then one on what it gives
abbrev pub InTurn : {A B : Type 0} → (Answer A → Type 0) → (A → Answer B → Type 0) → Answer B → Type 0
InTurn {A} {B} first next answer =
    ((status : Status) × first (refused status) × (answer ≡ refused status)) ⊎ ((a : A) × first (given a) × next a answer)

-- this is the answer
abbrev pub AnswersWith : {A : Type 0} → A → Answer A → Type 0
AnswersWith a answer = answer ≡ given a

-- a step has one answer at most
abbrev pub HasOneAnswer : {A : Type 0} → (Answer A → Type 0) → Type 0
HasOneAnswer {A} step = (one other : Answer A) → step one → step other → one ≡ other

-- why a step failed: by a fault of a file, for want of memory, or by a refusal
abbrev pub IsFailure : Status → (List ℕ → Type 0) → Type 0 → Type 0
IsFailure (FileFault name) OfFile Refused = OfFile name
IsFailure NoMemory OfFile Refused = Unit {0}
IsFailure status OfFile Refused = Refused
