-- What a store tells, and what keeping a file does to it.
use Rattle.std.specs.Prelude.{◌≡◌, ◌≤◌, ℕ, List, bytes_eq, Option, Some, if◌then◌else◌}
use Rattle.std.specs.Option.{option_map}
use Rattle.anb_base.specs.Moves.{Rose}

pub record StoreState : Type 0 where
  -- the content of each file that is kept, by its name, where this is told
  pub files : Option (List ℕ → Option (List ℕ))
  -- how often keeping a file has failed, up to the last value of a u64
  pub faults : ℕ

-- the file of this name has this content, and each other one is as it was
abbrev pub with_file : (List ℕ → Option (List ℕ)) → (name content : List ℕ) → List ℕ → Option (List ℕ)
with_file files name content other = if bytes_eq other name then Some content else files other

-- a store in which the file of this name was replaced
abbrev pub replaced : StoreState → (name content : List ℕ) → StoreState
replaced store name content = record store {
  files = option_map (λ files. with_file files name content) store.files;
}

-- each file is as it was, and the fault is counted
pub record HasFailed (old new : StoreState) : Type 0 where
  pub same_files : new.files ≡ old.files
  pub rose : Rose old.faults new.faults
  pub never_falls : old.faults ≤ new.faults
