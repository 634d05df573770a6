-- Where a text stands in a list.
use Rattle.std.specs.Prelude.{ℕ, List, Bool, Option}
use Rattle.std.specs.List.{list_any, position_from}
use Rattle.std.specs.Str.{bytes_eq}

-- the place at which a text stands first, from 0
abbrev pub place_of : List (List ℕ) → List ℕ → Option ℕ
place_of texts text = position_from (λ y. bytes_eq y text) 0 texts

-- whether a text is one of these
abbrev pub among : List (List ℕ) → List ℕ → Bool
among texts text = list_any (λ y. bytes_eq y text) texts
