-- What is asked of each role's child.
use Rattle.std.specs.Prelude.{ℕ, List, [], ◌∷◌, ◌++◌, map, Option, Some, None}
use Rattle.anb_stage.specs.Children.{asked_words}
use Rattle.anb_stage.specs.declared.words.ChildWords.{ChildWords}

-- What stands there for a file of the child's own: a NUL, which no word of a program can have, and the bytes
-- of the file.
abbrev pub file_word : List ℕ → List ℕ
file_word bytes = 0 ∷ bytes

abbrev pub own_file : Option (List ℕ) → List (List ℕ)
own_file None = []
own_file (Some bytes) = file_word bytes ∷ []

abbrev pub asked_by : Option ℕ → ChildWords → List (List ℕ)
asked_by limit own = asked_words limit own.program.items (own.words.items ++ own_file own.values)

abbrev pub asked_lists : Option ℕ → List ChildWords → List (List (List ℕ))
asked_lists limit all = map (asked_by limit) all
