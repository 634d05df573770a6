-- The numbers, from 0, of what is beyond a limit.
use Rattle.std.specs.Prelude.{ℕ, ◌+◌, ◌-◌, List, [], ◌∷◌, nat_lt, if◌then◌else◌}
use Rattle.anb_format.specs.Formats.{field_count}
use Rattle.anb_syntax.specs.Grammar.{FormatItem, Tree}
use Rattle.anb_protocol.specs.Checks.{tree_nodes}

-- the first format that has too many fields
abbrev pub wide_format : List FormatItem → ℕ
wide_format [] = 0
wide_format (f ∷ fs) = if nat_lt 32 (field_count f.pieces) then 0 else 1 + wide_format fs

-- the first term that has more nodes than this
abbrev pub large_term : ℕ → List Tree → ℕ
large_term most [] = 0
large_term most (t ∷ ts) = if nat_lt most (tree_nodes t) then 0 else 1 + large_term most ts

-- the first term that has, with those before it, more nodes than this
abbrev pub heavy_term : ℕ → List Tree → ℕ
heavy_term most [] = 0
heavy_term most (t ∷ ts) = if nat_lt most (tree_nodes t) then 0 else 1 + heavy_term (most - tree_nodes t) ts
