-- What each line of a values file says by itself.
use Rattle.std.specs.Prelude.{◌≡◌, ℕ, Bool, true, false, List, [], ◌∷◌, Option, Some, None, Ok, Err}
use Rattle.anb_values.specs.Fit.{Fit, Outcome}
use Rattle.anb_values.specs.Lines.{seed_label}
use Rattle.anb_values.specs.declared.refusal.ValuesNo.TheVariants as refusal
use Rattle.anb_value_mistakes.specs.declared.reading.Saying.{Saying}
use Rattle.anb_value_mistakes.specs.declared.reading.Saying.TheVariants.{Nothing, Label, Faulty}
use Rattle.anb_value_mistakes.specs.declared.reading.ReadLine.{ReadLine}

abbrev pub seeded : Option (List ℕ) → Saying
seeded None = Nothing
seeded (Some seed) = Label seed_label

-- what a line says, by what it alone gives where no name is asked for
abbrev pub alone : Outcome → Saying
alone (Ok fitted) = seeded fitted.seed
alone (Err (refusal.Line n)) = Faulty
alone (Err (refusal.Extra label)) = Label label
alone (Err (refusal.Twice label)) = Label label
alone (Err (refusal.Long label)) = Label label
alone (Err (refusal.Missing label)) = Nothing
alone (Err refusal.NoMemory) = Nothing

abbrev pub Says : List ℕ → Saying → Type 0
Says line said = (outcome : Outcome) × Fit line [] outcome × (said ≡ alone outcome)

abbrev pub is_long : Outcome → Bool
is_long (Err (refusal.Long label)) = true
is_long _ = false

-- whether the value of a label is too long, by what the line alone gives where that name is asked for
abbrev pub IsLong : List ℕ → Saying → Bool → Type 0
IsLong line (Label label) long = (outcome : Outcome) × Fit line (label ∷ []) outcome × (long ≡ is_long outcome)
IsLong line said long = long ≡ false

pub record IsRead (source : List ℕ) (read : ReadLine) : Type 0 where
  pub line : read.line ≡ source
  pub says : Says source read.said
  pub long : IsLong source read.said read.is_long
