-- For proofs alone: rows of flags, one for each role.
use Rattle.std.specs.Prelude.{◌≡◌, ℕ, List, Bool, Some, Vec, length, map, slice_get}
use Rattle.std.specs.Global.{Global}
use Rattle.anb_term.specs.Tree.{Tree}

-- for each role and each of these keys, whether it does something with it
pub record AreRows (roles : ℕ) (keys : List Tree) (does : Tree → ℕ → Bool) (rows : List (Vec Bool Global)) : Type 0 where
  pub long : length rows ≡ roles
  pub each : (role : ℕ) (row : Vec Bool Global) → slice_get rows role ≡ Some row → row.items ≡ map (λ k. does k role) keys

-- the flags at a place, one for each role
pub record IsColumn (i : ℕ) (roles : ℕ) (does : ℕ → Bool) (rows : List (Vec Bool Global)) : Type 0 where
  pub long : length rows ≡ roles
  pub each : (role : ℕ) (row : Vec Bool Global) → slice_get rows role ≡ Some row → slice_get row.items i ≡ Some (does role)
