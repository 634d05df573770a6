-- The canonical text of a narration: its words, each behind what stands before it.
use Rattle.std.specs.Prelude.{ℕ, List, [], ◌∷◌, ◌++◌, map, ◌==◌, if◌then◌else◌}
use Rattle.std.specs.List.{flat_map}
use Rattle.anb_base.specs.declared.content.Suite.{Suite}
use Rattle.anb_base.specs.declared.content.Suite.TheVariants.{One, Two}
use Rattle.anb_format.specs.Literals.{canonical_literal}
use Rattle.anb_format.specs.declared.pieces.Piece.{Piece}
use Rattle.anb_syntax.specs.Words.{Word, name, literal, sign, end, bad, colon, semicolon, comma, equals, arrow, protocol_word, suite_word, types_word, formats_word, knowledge_word, actions_word, sort_word, hash_name}
use Rattle.anb_syntax.specs.Grammar.{Tree, Trees, none, more, spell_tree, TypeItem, FormatItem, KnowItem, ActionItem, Narration, piece_word}

-- a word, and the bytes before it
pub record Laid : Type 0 where
  pub gap : List ℕ
  pub word : Word

abbrev pub word_bytes : Word → List ℕ
word_bytes (name b) = b
word_bytes (literal b) = canonical_literal b
word_bytes (sign c) = if c == 45 then 45 ∷ 62 ∷ [] else c ∷ []
word_bytes end = []
word_bytes bad = []

abbrev pub words_bytes : List Word → List ℕ
words_bytes xs = flat_map word_bytes xs

abbrev pub laid_bytes : Laid → List ℕ
laid_bytes p = p.gap ++ word_bytes p.word

abbrev pub all_bytes : List Laid → List ℕ
all_bytes ps = flat_map laid_bytes ps

abbrev pub at_once : Word → Laid
at_once w = record { gap = []; word = w }

abbrev pub spaced : Word → Laid
spaced w = record { gap = 32 ∷ []; word = w }

abbrev pub on_line : Word → Laid
on_line w = record { gap = 10 ∷ []; word = w }

abbrev pub indented : Word → Laid
indented w = record { gap = 10 ∷ 32 ∷ 32 ∷ []; word = w }

-- the first word spaced, and the others at once
abbrev pub spaced_first : List Word → List Laid
spaced_first [] = []
spaced_first (x ∷ xs) = spaced x ∷ map at_once xs

-- the canonical text of a term
abbrev pub canon_tree : Tree → List ℕ
canon_tree t = words_bytes (spell_tree t)

abbrev pub lay_comma_name : List ℕ → List Laid
lay_comma_name n = at_once comma ∷ spaced (name n) ∷ []

abbrev pub lay_names : List (List ℕ) → List Laid
lay_names [] = []
lay_names (n ∷ ns) = spaced (name n) ∷ flat_map lay_comma_name ns

abbrev pub lay_type : TypeItem → List Laid
lay_type i = indented (name (sort_word i.sort)) ∷ lay_names i.names ++ at_once semicolon ∷ []

abbrev pub lay_piece : Piece → Laid
lay_piece p = spaced (piece_word p)

abbrev pub lay_format : FormatItem → List Laid
lay_format i = indented (name i.title) ∷ spaced equals ∷ map lay_piece i.pieces ++ at_once semicolon ∷ []

abbrev pub lay_others : Trees → List Laid
lay_others none = at_once semicolon ∷ []
lay_others (more t ts) = at_once comma ∷ spaced_first (spell_tree t) ++ lay_others ts

abbrev pub lay_terms : Trees → List Laid
lay_terms none = at_once semicolon ∷ []
lay_terms (more t ts) = spaced_first (spell_tree t) ++ lay_others ts

abbrev pub lay_know : KnowItem → List Laid
lay_know i = indented (name i.role) ∷ at_once colon ∷ lay_terms i.terms

abbrev pub lay_action : ActionItem → List Laid
lay_action a = indented (name a.from) ∷ spaced arrow ∷ spaced (name a.to) ∷ at_once colon ∷ spaced_first (spell_tree a.message) ++ at_once semicolon ∷ []

abbrev pub lay_suite : Suite → List Laid
lay_suite One = []
lay_suite Two = on_line (name suite_word) ∷ at_once colon ∷ spaced (name (hash_name Two)) ∷ at_once semicolon ∷ []

abbrev pub lay_formats : List FormatItem → List Laid
lay_formats [] = []
lay_formats (i ∷ is) = on_line (name formats_word) ∷ at_once colon ∷ flat_map lay_format (i ∷ is)

abbrev pub lay_knows : List KnowItem → List Laid
lay_knows [] = []
lay_knows (i ∷ is) = on_line (name knowledge_word) ∷ at_once colon ∷ flat_map lay_know (i ∷ is)

abbrev pub lay : Narration → List Laid
lay n = at_once (name protocol_word) ∷ at_once colon ∷ spaced (name n.title) ∷ at_once semicolon ∷ lay_suite n.suite ++ (on_line (name types_word) ∷ at_once colon ∷ flat_map lay_type n.types
    ++ (lay_formats n.formats ++ (lay_knows n.knows ++ (on_line (name actions_word) ∷ at_once colon ∷ flat_map lay_action n.actions ++ on_line end ∷ []))))

abbrev pub canon : Narration → List ℕ
canon n = all_bytes (lay n)
