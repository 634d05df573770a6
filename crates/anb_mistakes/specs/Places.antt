-- Where an offset lies in a text. Lines end with the byte 0A. Lines and columns are counted from 1, columns in bytes.
use Rattle.std.specs.Prelude.{ℕ, ◌+◌, ◌-◌, List, [], ◌∷◌, take, drop, Bool, not, ◌==◌, if◌then◌else◌}
use Rattle.std.specs.List.{prefix_len}

-- line and column behind these bytes, from a line and a column on
abbrev pub place_after : ℕ → ℕ → List ℕ → ℕ × ℕ
place_after line column [] = (line, column)
place_after line column (b ∷ x) = if b == 10 then place_after (line + 1) 1 x else place_after line (column + 1) x

-- the line and the column of an offset
abbrev pub place_at : List ℕ → ℕ → ℕ × ℕ
place_at x at = place_after 1 1 (take at x)

-- a byte of a line, and not the one that ends it
abbrev pub is_inner : ℕ → Bool
is_inner b = not (b == 10)

abbrev pub first_line : List ℕ → List ℕ
first_line x = take (prefix_len is_inner x) x

-- the line of an offset in this column, and what stands in it before the offset
abbrev pub line_at : List ℕ → ℕ → ℕ → List ℕ
line_at x at column = first_line (drop (at + 1 - column) x)

abbrev pub before_at : List ℕ → ℕ → ℕ → List ℕ
before_at x at column = take (column - 1) (drop (at + 1 - column) x)
