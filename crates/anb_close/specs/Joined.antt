-- Compositions joined.
use Rattle.std.specs.Prelude.{List, [], ◌∷◌}
use Rattle.anb_term.specs.Tree.{Tree, Trees, more}

-- these, and then those
abbrev pub after : List Tree → Trees → Trees
after [] us = us
after (t ∷ ts) us = more t (after ts us)
