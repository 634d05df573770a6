-- What making and appending to files does to a store.
use Rattle.std.specs.Prelude.{◌≡◌, ◌≢◌, ◌⊎◌, ℕ, List, [], ◌++◌, Option, Some, None, unwrap_or, option_map}
use Rattle.anb_store.specs.Stores.{StoreState, replaced, with_file}

-- files by name
abbrev pub Files : Type 0
Files = List ℕ → Option (List ℕ)

-- what the file of this name holds; nothing where there is none
abbrev pub content_of : Files → (name : List ℕ) → List ℕ
content_of files name = unwrap_or (files name) []

-- a store in which these bytes were appended to the file of this name
abbrev pub appended : StoreState → (name bytes : List ℕ) → StoreState
appended store name bytes = record store {
  files = option_map (λ files. with_file files name (content_of files name ++ bytes)) store.files;
}

-- a store in which two files were made, the first with this content and the second empty
abbrev pub begun : StoreState → (first content second : List ℕ) → StoreState
begun store first content second = replaced (replaced store first content) second []

-- wherever the files are told, there is one of this name
abbrev pub IsThere : StoreState → (name : List ℕ) → Type 0
IsThere store name = (files : Files) → store.files ≡ Some files → files name ≢ None

abbrev pub IsAbsent : StoreState → (name : List ℕ) → Type 0
IsAbsent store name = (files : Files) → store.files ≡ Some files → files name ≡ None

-- each file that isn't one of mine is as it was
abbrev pub OthersStay : (IsMine : List ℕ → Type 0) → (old new : StoreState) → Type 0
OthersStay IsMine old new =
    (files : Files) → old.files ≡ Some files
    → (now : Files) × (new.files ≡ Some now) × ((name : List ℕ) → (IsMine name → ⊥) → now name ≡ files name)

-- one of these two
abbrev pub IsEither : (first second : List ℕ) → List ℕ → Type 0
IsEither first second name = (name ≡ first) ⊎ (name ≡ second)
