-- What a command that fetches no file leaves of a shelf.
use Rattle.std.proofs.Common.{ℕ, List, [], Option, Some, None, refl, arith}
use Rattle.anb_command.specs.Fetches.{Fetches, Files}

pub fetches_none : (files : Option Files) (faults : List ℕ → ℕ) → Fetches [] files files faults faults
fetches_none None faults = record { same_files = refl; never_falls = λ name. omega arith; others = tt }
fetches_none (Some told) faults = record { same_files = refl; never_falls = λ name. omega arith; others = λ name other. refl }
