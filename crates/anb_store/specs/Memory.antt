-- A store in memory: what it keeps, and which of its calls fail.
use Rattle.std.specs.Prelude.{ℕ, List, [], ◌∷◌, ◌++◌, Option, Some, None}
use Rattle.anb_base.specs.Memory.{raised}
use Rattle.anb_store.specs.Stores.{StoreState, with_file}

pub record MemoryStore : Type 0 where
  -- names and contents, in the order in which they came
  pub kept : List (List ℕ × List ℕ)
  -- how many calls came, and the numbers from 1 of those that fail
  pub calls : ℕ
  pub fails : List ℕ
  pub faults : ℕ

-- a store in which nothing was kept
abbrev pub fresh_store : List ℕ → MemoryStore
fresh_store fails = record { kept = []; calls = 0; fails = fails; faults = 0 }

-- the store after one more call, after one that failed, and after one that kept a file
abbrev pub called : MemoryStore → MemoryStore
called store = record store { calls = raised store.calls }

abbrev pub failed : MemoryStore → MemoryStore
failed store = record (called store) { faults = raised store.faults }

abbrev pub kept_then : MemoryStore → (name content : List ℕ) → MemoryStore
kept_then store name content =
    record (called store) { kept = store.kept ++ (name, content) ∷ [] }

-- the files once these came, one after another
abbrev pub files_after : (List ℕ → Option (List ℕ)) → List (List ℕ × List ℕ) → List ℕ → Option (List ℕ)
files_after files [] = files
files_after files (file ∷ later) = files_after (with_file files file.0 file.1) later

-- what the store tells
abbrev pub state_of : MemoryStore → StoreState
state_of store = record {
  files = Some (files_after (λ _. None) store.kept);
  faults = store.faults;
}
