-- What a code is run with.
use Rattle.std.specs.Prelude.{ℕ, nat_lt, List, Bool, Option}
use Rattle.anb_code.specs.CodeValue.{CodeValue}
use Rattle.anb_code.specs.Taking.{count_fresh, take_texts}
use Rattle.anb_command.specs.Files.{ValuesInFile}
use Rattle.anb_command.specs.Seeds.{SeedIs}
use Rattle.anb_command.specs.Steps.{Answer, InTurn, AnswersWith}

-- a code with the initial values of its takes, in order, and the seed of its draws
pub record Errand : Type 0 where
  pub code : CodeValue
  pub initial : List (List ℕ)
  pub seed : List ℕ

-- the code has a fresh name
abbrev pub draws : CodeValue → Bool
draws code = nat_lt 0 (count_fresh code.instrs)

module _ (files : List ℕ → Option (List ℕ)) where
  -- what a code is run with: the values that a file gives to the texts of its takes, and the seed, where
  -- this one is handed in
  abbrev pub ErrandOf : (values : List ℕ) → Option (List ℕ) → CodeValue → Answer Errand → Type 0
  ErrandOf values host_seed code =
      InTurn (ValuesInFile files values (take_texts code.instrs)) (λ fitted.
      InTurn (SeedIs (draws code) fitted.seed host_seed) (λ seed.
      AnswersWith (record { code = code; initial = fitted.values; seed = seed })))
