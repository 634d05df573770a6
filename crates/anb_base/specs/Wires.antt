-- What a wire tells, in one value.
use Rattle.std.specs.Prelude.{ℕ, List, Option}

pub record WireState : Type 0 where
  -- the bytes that are left, and for each byte that was taken how many were written by then
  pub left : Option (List ℕ)
  pub taken_at : Option (List ℕ)
  pub read_faults : ℕ
  -- the bytes that are written
  pub written : Option (List ℕ)
  pub write_faults : ℕ
  -- the lines of the places that were reached
  pub reached : Option (List ℕ)
  pub reach_faults : ℕ
