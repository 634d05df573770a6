-- The file with the values of a recording, in its folder.
use Rattle.std.specs.Prelude.{ℕ, List, ◌++◌, codes}

-- the values that were used, with the seed in force
abbrev pub values_in : (folder : List ℕ) → List ℕ
values_in folder = folder ++ codes "/values"
