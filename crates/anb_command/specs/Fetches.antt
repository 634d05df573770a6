-- What fetching files leaves of a shelf.
use Rattle.std.specs.Prelude.{◌≡◌, ◌≢◌, ◌⊎◌, ℕ, ◌≤◌, List, [], ◌∷◌, Option, Some, None}

-- files by name, where they are told
abbrev pub Files : Type 0
Files = List ℕ → Option (List ℕ)

abbrev pub IfTold : {A : Type 0} → Option A → (A → Type 0) → Type 0
IfTold None P = Unit {0}
IfTold (Some told) P = P told

-- the name is none of these
abbrev pub IsOther : List (List ℕ) → List ℕ → Type 0
IsOther [] name = Unit {0}
IsOther (each ∷ names) name = (name ≢ each) × IsOther names name

-- the name is one of these
abbrev pub IsOneOf : List (List ℕ) → List ℕ → Type 0
IsOneOf [] name = ⊥
IsOneOf (each ∷ names) name = (name ≡ each) ⊎ IsOneOf names name

-- the files stay, no count of faults falls, and where the files are told only these names' counts rise
pub record Fetches (names : List (List ℕ)) (files files_now : Option Files) (faults faults_now : List ℕ → ℕ) : Type 0 where
  pub same_files : files_now ≡ files
  pub never_falls : (name : List ℕ) → faults name ≤ faults_now name
  pub others : IfTold files (λ _. (name : List ℕ) → IsOther names name → faults_now name ≡ faults name)
