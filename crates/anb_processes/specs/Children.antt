-- What is told of the child programs of the machine: their phases, how often a call for each role has
-- failed, and whether the last one was that the child was silent.
use Rattle.std.specs.Prelude.{◌≡◌, ◌≢◌, ℕ, Bool, false, List, get_or, None}
use Rattle.anb_stage.specs.Children.{Child}

pub record Children : Type 0 where
  pub phases : List ℕ
  pub faults : List ℕ
  pub silent : List Bool

abbrev pub child_of : Children → ℕ → Child
child_of s role = record {
  left = None;
  taken_at = None;
  written = None;
  asked = None;
  status = None;
  faults = get_or s.faults role 0;
  silent = get_or s.silent role false;
  phase = get_or s.phases role 0;
}

-- the children of all other roles are as before
abbrev pub OthersAreSame : ℕ → (old new : Children) → Type 0
OthersAreSame role old new = (other : ℕ) → other ≢ role → child_of new other ≡ child_of old other
