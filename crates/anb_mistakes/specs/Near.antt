-- Names that are near one another.
use Rattle.std.specs.Prelude.{◌≡◌, ℕ, List, [], ◌∷◌, ◌++◌, length, nat_lt, Bool, false, ◌==◌, ◌&&◌, ◌||◌, codes, if◌then◌else◌}
use Rattle.std.specs.List.{flat_map}
use Rattle.std.specs.Str.{bytes_eq}
use Rattle.anb_syntax.specs.Words.{Word, name, protocol_word, suite_word, types_word, formats_word, knowledge_word, actions_word, goals_word}

-- two bytes that stand together stand the other way round
abbrev pub is_swapped : List ℕ → List ℕ → Bool
is_swapped (a ∷ b ∷ x) (c ∷ d ∷ y) = a == d && b == c && bytes_eq x y
is_swapped _ _ = false

-- one byte is another one, or is missing in one of the two, or two are swapped
abbrev pub is_near : List ℕ → List ℕ → Bool
is_near [] y = length y == 1
is_near (b ∷ x) [] = length x == 0
is_near (b ∷ x) (c ∷ y) =
    if b == c then is_near x y
    else bytes_eq x y || bytes_eq (b ∷ x) y || bytes_eq x (c ∷ y) || is_swapped (b ∷ x) (c ∷ y)

-- the first bytes differ, where both have some
abbrev pub IsForked : List ℕ → List ℕ → Type 0
IsForked (b ∷ x) (c ∷ y) = (b == c) ≡ false
IsForked _ _ = Unit {0}

-- a name behind a comma, where it is near; names of one byte are near none
abbrev pub hint : (x other : List ℕ) → List ℕ
hint x other =
    if nat_lt 1 (length x) && nat_lt 1 (length other) && is_near x other then codes ", " ++ other else []

abbrev pub near_among : List (List ℕ) → List ℕ → List ℕ
near_among names x = flat_map (hint x) names

-- what is said of names behind commas
abbrev pub near_text : List ℕ → List ℕ
near_text [] = []
near_text (comma ∷ names) = codes "; near:" ++ names

-- the sections that are near a word
abbrev pub sections : List (List ℕ)
sections =
    protocol_word ∷ suite_word ∷ types_word ∷ formats_word ∷ knowledge_word ∷ actions_word ∷ goals_word ∷ []

abbrev pub section_text : Word → List ℕ
section_text (name x) = near_text (near_among sections x)
section_text w = []
