-- Words: what the tokens of a text are to the grammar.
use Rattle.std.specs.Prelude.{◌≡◌, ℕ, List, [], ◌∷◌, Bool, true, false, ◌==◌, ◌&&◌, ◌||◌, not, codes, nat_le, Option, Some, None, if◌then◌else◌}
use Rattle.std.specs.List.{list_all, list_any}
use Rattle.std.specs.Str.{bytes_eq}
use Rattle.anb_base.specs.declared.content.Suite.{Suite}
use Rattle.anb_base.specs.declared.content.Suite.TheVariants.{One, Two}
use Rattle.anb_format.specs.declared.pieces.FieldKind.{FieldKind}
use Rattle.anb_format.specs.declared.pieces.FieldKind.TheVariants.{Len, Net, Hex, Rest}
use Rattle.anb_syntax.specs.declared.narration.Sort.{Sort}
use Rattle.anb_syntax.specs.declared.narration.Sort.TheVariants.{Agent, Number, Key}

-- a name or a reserved word by its bytes, a literal by the bytes that it means, a sign by its first
-- byte; and what a list of tokens ends with: the end of the text, or a place where no token begins
pub data Word : Type 0 where
  name : List ℕ → Word
  literal : List ℕ → Word
  sign : ℕ → Word
  end : Word
  bad : Word

-- a word, and the offset at which it begins
pub record Tok : Type 0 where
  pub word : Word
  pub at : ℕ

abbrev pub word_eqb : Word → Word → Bool
word_eqb (name a) (name b) = bytes_eq a b
word_eqb (literal a) (literal b) = bytes_eq a b
word_eqb (sign a) (sign b) = a == b
word_eqb end end = true
word_eqb bad bad = true
word_eqb _ _ = false

abbrev pub colon : Word
colon = sign 58

abbrev pub semicolon : Word
semicolon = sign 59

abbrev pub comma : Word
comma = sign 44

abbrev pub open_sign : Word
open_sign = sign 40

abbrev pub close_sign : Word
close_sign = sign 41

abbrev pub equals : Word
equals = sign 61

abbrev pub arrow : Word
arrow = sign 45

abbrev pub protocol_word : List ℕ
protocol_word = codes "Protocol"

abbrev pub suite_word : List ℕ
suite_word = codes "Suite"

abbrev pub types_word : List ℕ
types_word = codes "Types"

abbrev pub formats_word : List ℕ
formats_word = codes "Formats"

abbrev pub knowledge_word : List ℕ
knowledge_word = codes "Knowledge"

abbrev pub actions_word : List ℕ
actions_word = codes "Actions"

abbrev pub choice_word : List ℕ
choice_word = codes "Choice"

abbrev pub goals_word : List ℕ
goals_word = codes "Goals"

abbrev pub hash_word : List ℕ
hash_word = codes "h"

abbrev pub mac_word : List ℕ
mac_word = codes "mac"

abbrev pub seal_word : List ℕ
seal_word = codes "scrypt"

abbrev pub wrap_word : List ℕ
wrap_word = codes "wrap"

abbrev pub sort_word : Sort → List ℕ
sort_word Agent = codes "Agent"
sort_word Number = codes "Number"
sort_word Key = codes "Key"

abbrev pub hash_name : Suite → List ℕ
hash_name One = codes "sha256"
hash_name Two = codes "sha512"

abbrev pub kind_word : FieldKind → List ℕ
kind_word Len = codes "len"
kind_word Net = codes "net"
kind_word Hex = codes "hex"
kind_word Rest = codes "rest"

-- the suite whose hash has this name
abbrev pub suite_of_word : List ℕ → Option Suite
suite_of_word b = if bytes_eq (hash_name One) b then Some One else (if bytes_eq (hash_name Two) b then Some Two else None)

-- the kind of field with this word
abbrev pub kind_of_word : List ℕ → Option FieldKind
kind_of_word b =
    if bytes_eq (kind_word Len) b then Some Len
    else (if bytes_eq (kind_word Net) b then Some Net
    else (if bytes_eq (kind_word Hex) b then Some Hex
    else (if bytes_eq (kind_word Rest) b then Some Rest else None)))

abbrev pub is_letter : ℕ → Bool
is_letter b = (nat_le 65 b && nat_le b 90) || (nat_le 97 b && nat_le b 122)

-- a letter, a digit or an underscore
abbrev pub is_name_byte : ℕ → Bool
is_name_byte b = is_letter b || (nat_le 48 b && nat_le b 57) || b == 95

-- a letter, and then such bytes
abbrev pub is_spelled : List ℕ → Bool
is_spelled [] = false
is_spelled (b ∷ x) = is_letter b && list_all is_name_byte x

abbrev pub reserved_words : List (List ℕ)
reserved_words =
    protocol_word ∷ suite_word ∷ types_word ∷ formats_word ∷ knowledge_word ∷ actions_word ∷ choice_word ∷ goals_word
    ∷ sort_word Agent ∷ sort_word Number ∷ sort_word Key ∷ hash_word ∷ mac_word ∷ seal_word ∷ wrap_word ∷ []

-- a name of the grammar is spelled as one, and isn't reserved
unfoldable pub is_name : List ℕ → Bool
is_name b = is_spelled b && not (list_any (bytes_eq b) reserved_words)

-- the first word, and the others; the tokens of a text end with a word that isn't passed over
abbrev pub head : List Tok → Word
head [] = bad
head (t ∷ ts) = t.word

abbrev pub tail : List Tok → List Tok
tail [] = []
tail (t ∷ ts) = ts

abbrev pub place : List Tok → ℕ
place [] = 0
place (t ∷ ts) = t.at

-- the tokens begin with these words, and then these tokens follow
abbrev pub Begins : List Tok → List Word → List Tok → Type 0
Begins w [] rest = w ≡ rest
Begins [] (x ∷ xs) rest = ⊥
Begins (t ∷ w) (x ∷ xs) rest = (t.word ≡ x) × Begins w xs rest
