-- What holds of branched texts, whatever they are.
use Rattle.std.specs.Prelude.{◌≡◌, ◌⊎◌, ℕ, List, None}
use Rattle.anb_outcomes.specs.declared.choices.BranchNo.{BranchNo}
use Rattle.anb_choice.specs.Branching.{AreArmTexts, BranchedText, IsRefusal, IsUntold, choice_fault}
use Rattle.anb_choice.specs.Lawful.{BranchedValue, IsLawful}

-- a text tells one choice at most
abbrev pub ChoicesAreUnique : Type 0
ChoicesAreUnique = (x : List ℕ) (b c : BranchedValue) → BranchedText x b → BranchedText x c → b ≡ c

-- a text has one refusal at most
abbrev pub RefusalsAreUnique : Type 0
RefusalsAreUnique = (x : List ℕ) (why other : BranchNo) → IsRefusal x why → IsRefusal x other → why ≡ other

-- no text tells a lawful choice and is refused
abbrev pub NoneIsBoth : Type 0
NoneIsBoth = (x : List ℕ) (b : BranchedValue) (why : BranchNo) → BranchedText x b → IsLawful b → IsRefusal x why → ⊥

-- a text that tells a choice without a fault tells a lawful one
abbrev pub FaultlessIsLawful : Type 0
FaultlessIsLawful = (x : List ℕ) (b : BranchedValue) → BranchedText x b → choice_fault b ≡ None → IsLawful b

-- each text tells a lawful choice, or is refused
abbrev pub EachIsEither : Type 0
EachIsEither = (x : List ℕ) → ((b : BranchedValue) × BranchedText x b × IsLawful b) ⊎ ((why : BranchNo) × IsRefusal x why)

-- the texts of its arms are one list
abbrev pub ArmTextsAreUnique : Type 0
ArmTextsAreUnique = (x : List ℕ) (texts others : List (List ℕ)) → AreArmTexts x texts → AreArmTexts x others → texts ≡ others

-- no text tells a choice, lawful or not, and is refused as telling none
abbrev pub NoneIsUntold : Type 0
NoneIsUntold = (x : List ℕ) (b : BranchedValue) (no : BranchNo) → BranchedText x b → IsUntold x no → ⊥
