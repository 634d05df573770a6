-- What is known of the wire over the machine.
use Rattle.std.specs.Prelude.{ℕ}

-- how often reading, writing and reaching have failed
pub record Faults : Type 0 where
  pub reads : ℕ
  pub writes : ℕ
  pub reaches : ℕ
