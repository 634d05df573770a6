-- The names of participants, as Mermaid's sequence diagrams can take them.
use Rattle.std.specs.Prelude.{ℕ, List, [], ◌∷◌, ◌++◌, Bool, ◌||◌, codes, decimal, if◌then◌else◌}
use Rattle.std.specs.List.{list_any}
use Rattle.std.specs.Str.{str_eq_ignore_ascii_case}

-- The words that the language keeps for itself where a participant may stand, in any case of letters: those of
-- statements, of blocks of messages, and of what stands beside the messages.
abbrev pub statement_words : List (List ℕ)
statement_words =
    codes "participant" ∷ codes "actor" ∷ codes "create" ∷ codes "destroy" ∷ codes "activate" ∷ codes "deactivate"
    ∷ codes "note" ∷ codes "over" ∷ codes "autonumber" ∷ codes "off" ∷ []

abbrev pub block_words : List (List ℕ)
block_words =
    codes "end" ∷ codes "box" ∷ codes "rect" ∷ codes "loop" ∷ codes "opt" ∷ codes "alt" ∷ codes "else" ∷ codes "par"
    ∷ codes "par_over" ∷ codes "and" ∷ codes "critical" ∷ codes "option" ∷ codes "break" ∷ []

abbrev pub side_words : List (List ℕ)
side_words =
    codes "sequenceDiagram" ∷ codes "title" ∷ codes "accTitle" ∷ codes "accDescr" ∷ codes "link" ∷ codes "links"
    ∷ codes "properties" ∷ codes "details" ∷ []

abbrev pub is_among : List (List ℕ) → List ℕ → Bool
is_among words name = list_any (λ word. str_eq_ignore_ascii_case word name) words

abbrev pub is_word : List ℕ → Bool
is_word name = is_among statement_words name || is_among block_words name || is_among side_words name

-- A name that is such a word has an entity code, as `#101;`, in place of its first letter. It is drawn as that letter.
abbrev pub escaped : List ℕ → List ℕ
escaped [] = []
escaped (b ∷ rest) = if is_word (b ∷ rest) then 35 ∷ decimal b ++ 59 ∷ rest else b ∷ rest
