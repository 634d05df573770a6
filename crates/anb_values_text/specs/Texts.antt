-- Values files as they are written: one text for one content.
use Rattle.std.specs.Prelude.{◌≡◌, ℕ, Bool, ◌&&◌, nat_le, List, [], ◌∷◌, ◌++◌, codes, Option, Some, None, Ok, if◌then◌else◌}
use Rattle.std.specs.List.{list_all}
use Rattle.hex.specs.Hex.{encode_lower}
use Rattle.anb_format.specs.Literals.{canonical_literal}
use Rattle.anb_values.specs.Fit.{Fit}
use Rattle.anb_values.specs.Lines.{seed_label}
use Rattle.anb_values.specs.declared.fitted.Fitted.{Fitted}

-- the bytes 20 to 7E
abbrev pub is_printable : ℕ → Bool
is_printable b = nat_le 0x20 b && nat_le b 0x7e

-- `x` and two lower-case digits for each byte
abbrev pub digits_text : List ℕ → List ℕ
digits_text bytes = 120 ∷ encode_lower bytes

-- a literal where all bytes are printable, and digits else
abbrev pub value_text : List ℕ → List ℕ
value_text bytes = if list_all is_printable bytes then canonical_literal bytes else digits_text bytes

abbrev pub line_text : (label text : List ℕ) → List ℕ
line_text label text = label ++ codes " = " ++ text ++ 10 ∷ []

-- a line for each label, with the value at its place
abbrev pub lines_text : (labels values : List (List ℕ)) → List ℕ
lines_text [] values = []
lines_text (label ∷ labels) [] = []
lines_text (label ∷ labels) (value ∷ values) = line_text label (value_text value) ++ lines_text labels values

abbrev pub seed_text : Option (List ℕ) → List ℕ
seed_text None = []
seed_text (Some seed) = line_text seed_label (digits_text seed)

-- the values of labels, in their order, and then the seed, where there is one
abbrev pub values_text : (labels values : List (List ℕ)) → Option (List ℕ) → List ℕ
values_text labels values seed = lines_text labels values ++ seed_text seed

-- the text of these values, by these labels; it is read as exactly these
pub record IsTextOf (labels : List (List ℕ)) (fitted : Fitted) (text : List ℕ) : Type 0 where
  pub is : text ≡ values_text labels fitted.values fitted.seed
  pub reads : Fit text labels (Ok fitted)
