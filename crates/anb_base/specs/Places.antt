-- The line of a place.
use Rattle.std.specs.Prelude.{ℕ, List, [], ◌∷◌, ◌++◌, codes}
use Rattle.anb_base.specs.declared.place.Place.{Place}
use Rattle.anb_base.specs.declared.place.Place.TheVariants.{Stdio, Dial, Listen}

-- `stdio`, `dial <where>` or `listen <where>`, and a line feed
abbrev pub line_of : Place → List ℕ
line_of Stdio = codes "stdio" ++ 10 ∷ []
line_of (Dial at) = codes "dial " ++ at ++ 10 ∷ []
line_of (Listen at) = codes "listen " ++ at ++ 10 ∷ []
