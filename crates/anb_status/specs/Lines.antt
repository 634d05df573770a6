-- What is told on the error sink.
use Rattle.std.specs.Prelude.{ℕ, ◌≤◌, List, Option, ◌⊎◌}
use Rattle.anb_base.specs.Moves.{Rose, Put, PutPrefix}

-- the line was appended, or a prefix of it where the sink failed; the sink's count never falls
pub record Tells (line : List ℕ) (old new : Option (List ℕ)) (faults faults_now : ℕ) : Type 0 where
  pub told : Put old new line ⊎ (Rose faults faults_now × PutPrefix old new line)
  pub never_falls : faults ≤ faults_now
