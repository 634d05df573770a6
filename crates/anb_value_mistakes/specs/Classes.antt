-- Kinds of bytes in a values file.
use Rattle.std.specs.Prelude.{ℕ, Bool, false, not, ◌||◌, ◌==◌, List, [], ◌∷◌}
use Rattle.std.specs.Char.{is_ascii_hexdigit}
use Rattle.std.specs.List.{prefix_len}
use Rattle.anb_values.specs.Lines.{is_edge, is_label_byte, is_space}
use Rattle.anb_value_mistakes.specs.declared.classes.Class.{Class}
use Rattle.anb_value_mistakes.specs.declared.classes.Class.TheVariants.{Edge, Space, Digit, Label, Front, BeforeEquals}

abbrev pub is_of : Class → ℕ → Bool
is_of Edge b = is_edge b
is_of Space b = is_space b
is_of Digit b = is_ascii_hexdigit b
is_of Label b = is_label_byte b || is_space b
is_of Front b = (is_label_byte b || is_space b) || b == 64
is_of BeforeEquals b = not (b == 61)

-- how many bytes of a kind stand at the front
abbrev pub count : Class → List ℕ → ℕ
count class bytes = prefix_len (is_of class) bytes

abbrev pub begins : ℕ → List ℕ → Bool
begins c [] = false
begins c (b ∷ bs) = b == c
