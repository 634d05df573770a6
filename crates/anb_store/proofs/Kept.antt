-- Files that are kept one after another.
use Rattle.std.proofs.Common.{◌≡◌, ℕ, List, [], ◌∷◌, ◌++◌, Option, refl}
use Rattle.anb_store.specs.Memory.{files_after}
use Rattle.anb_store.specs.Stores.{with_file}

-- one more file stands before all earlier ones of its name
pub files_after_then : (files : List ℕ → Option (List ℕ)) (kept : List (List ℕ × List ℕ)) (name content : List ℕ)
    → files_after files (kept ++ (name, content) ∷ []) ≡ with_file (files_after files kept) name content
files_after_then files [] name content = refl
files_after_then files (file ∷ kept) name content = files_after_then (with_file files file.0 file.1) kept name content
