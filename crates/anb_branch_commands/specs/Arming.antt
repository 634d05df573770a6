-- A role that can be played in each arm.
use Rattle.std.specs.Prelude.{◌≡◌, ◌≤◌, ℕ, List, length, true, All, Option}
use Rattle.anb_index.specs.Places.{among}
use Rattle.anb_base.specs.declared.TheConstants.{ARRIVAL}
use Rattle.anb_code.specs.CodeValue.{CodeValue}
use Rattle.anb_choice.specs.Lawful.{BranchedValue, IsLawful, roles_in}
use Rattle.anb_branch.specs.Arms.{FitArms}
use Rattle.anb_branch.specs.Taken.{IsTold, TakeAll}
use Rattle.anb_branch_commands.specs.BranchJobs.{known_in}

-- a role of a lawful text has a code in each arm, and is told what it may be
pub record IsSeated (b : BranchedValue) (role : List ℕ) (told : Option ℕ)
    (codes : List CodeValue) : Type 0 where
  pub lawful : IsLawful b
  pub is_role : among (roles_in b) role ≡ true
  pub fit : FitArms b.arms role codes
  pub may : IsTold b role told

-- and has values for the takes of each code
pub record IsArmed (b : BranchedValue) (role : List ℕ) (told : Option ℕ) (codes : List CodeValue)
    (initial : List (List ℕ)) : Type 0 where
  pub seated : IsSeated b role told codes
  pub known : length initial ≡ length (known_in b role)
  pub count : TakeAll codes initial
  pub short : All (λ value. length value ≤ ARRIVAL) initial
