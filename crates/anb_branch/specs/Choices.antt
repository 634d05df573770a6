-- For proofs alone: how the arm of a role that isn't told one is decided.
use Rattle.std.specs.Prelude.{◌≡◌, ℕ, List, ◌∷◌, length, true, None, Some, slice_get}
use Rattle.std.specs.List.{list_any}
use Rattle.anb_plays.specs.Runs.{without_place}
use Rattle.anb_plays.specs.Plays.{Run}
use Rattle.anb_code.specs.CodeValue.{CodeValue}
use Rattle.anb_machine.specs.ByteRuns.{run_bytes}
use Rattle.anb_choice.specs.Lawful.{BranchedValue, is_free}
use Rattle.anb_branch.specs.declared.signs.Sign.{Sign}
use Rattle.anb_branch.specs.Taken.{stem_receives, run_taken}
use Rattle.anb_branch.specs.Signs.{AreSigns}
use Rattle.anb_branch.specs.Stems.{AgreeUpTo, behind}

-- what a run gives with this arrival next, behind these and the messages before it
abbrev pub goes_behind : Run → (past : List (List ℕ)) → List ℕ → Run
goes_behind F past b more =
    behind (λ xs. without_place (F xs)) past (length (F past).sent) (b ∷ more)

-- the role is free in some arm, and up to the choice each code does for all
pub record Decides (b : BranchedValue) (role : List ℕ) (init : List (List ℕ)) (seed : List ℕ)
    (codes : List CodeValue) (signs : List Sign) : Type 0 where
  pub signs_are : AreSigns b.stem role b.arms signs
  pub free : list_any (is_free b.stem role) b.arms ≡ true
  pub each : (place : ℕ) (code : CodeValue) → slice_get codes place ≡ Some code
      → AgreeUpTo (stem_receives b role)
      (run_taken b role None init seed codes) (run_bytes code init seed 0)
