-- Where a line that isn't of the grammar goes wrong, and how: a place in the line, in bytes from 0, and what stands there.
use Rattle.std.specs.Prelude.{ℕ, zero, suc, ◌+◌, ◌-◌, nat_le, nat_lt, Bool, true, false, not, ◌&&◌, ◌||◌, ◌==◌, List, [], ◌∷◌, length, take, drop, if◌then◌else◌}
use Rattle.std.specs.Str.{bytes_eq}
use Rattle.anb_values.specs.Lines.{before_trailing, is_edge, seed_label}
use Rattle.anb_value_mistakes.specs.Classes.{begins, count}
use Rattle.anb_value_mistakes.specs.declared.classes.Class.TheVariants.{Edge, Space, Digit, Label, Front, BeforeEquals}
use Rattle.anb_value_mistakes.specs.declared.wrong.Wrong.{Wrong}
use Rattle.anb_value_mistakes.specs.declared.wrong.Wrong.TheVariants as wrong

-- the same so many bytes later
abbrev pub later : ℕ → ℕ × Wrong → ℕ × Wrong
later n found = (n + found.0, found.1)

-- behind spaces
abbrev pub unspaced : List ℕ → List ℕ
unspaced bytes = drop (count Space bytes) bytes

-- ---- values in quotes

-- how many bytes stand for one behind a backslash, with that: none where nothing is written so
abbrev pub escape_len : List ℕ → ℕ
escape_len [] = 0
escape_len (c ∷ cs) = if c == 34 || c == 92 then 2 else (if c == 120 && count Digit (take 2 cs) == 2 then 4 else 0)

-- how many bytes the character at the front takes
abbrev pub character_len : List ℕ → ℕ
character_len [] = 0
character_len (b ∷ bs) = if b == 92 then escape_len bs else (if nat_le 32 b && (nat_le b 126 && not (b == 34)) then 1 else 0)

-- how many bytes the characters at the front take, where so many belong to one that began before
abbrev pub characters_len : (begun : ℕ) → List ℕ → ℕ
characters_len begun [] = 0
characters_len zero (b ∷ bs) = if character_len (b ∷ bs) == 0 then 0 else 1 + characters_len (character_len (b ∷ bs) - 1) bs
characters_len (suc begun) (b ∷ bs) = 1 + characters_len begun bs

-- behind a value's end
abbrev pub after_value : List ℕ → ℕ × Wrong
after_value rest = (count Space rest, if begins 35 (unspaced rest) then wrong.Comment else wrong.Behind)

-- what stands where no more character does
abbrev pub at_quote : List ℕ → ℕ × Wrong
at_quote rest =
    if length rest == 0 then (0, wrong.Unclosed)
    else (if begins 34 rest then later 1 (after_value (drop 1 rest))
    else (0, if begins 92 rest then wrong.Escape else wrong.Byte))

-- behind the opening quote
abbrev pub in_quotes : List ℕ → ℕ × Wrong
in_quotes bytes = later (characters_len 0 bytes) (at_quote (drop (characters_len 0 bytes) bytes))

-- ---- values in digits

-- what stands behind the digits
abbrev pub behind_digits : List ℕ → ℕ × Wrong
behind_digits rest = if begins 35 (unspaced rest) || nat_lt 0 (count Space rest) then after_value rest else (0, wrong.Digit)

-- behind the `x`, of a seed or not
abbrev pub in_digits : Bool → List ℕ → ℕ × Wrong
in_digits is_seed bytes =
    if nat_lt (count Digit bytes) (length bytes)
    then later (count Digit bytes) (behind_digits (drop (count Digit bytes) bytes))
    else (count Digit bytes, if is_seed then wrong.SeedLength else wrong.Odd)

-- ---- lines

abbrev pub in_value : Bool → List ℕ → ℕ × Wrong
in_value is_seed bytes =
    if length bytes == 0 then (0, wrong.NoValue)
    else (if begins 120 bytes then later 1 (in_digits is_seed (drop 1 bytes))
    else (if begins 48 bytes && begins 120 (drop 1 bytes) then (0, wrong.Prefix)
    else (if is_seed then (0, wrong.SeedBare)
    else (if begins 34 bytes then later 1 (in_quotes (drop 1 bytes))
    else (0, if begins 39 bytes then wrong.Apostrophe else wrong.Bare)))))

-- whether a colon stands behind what may be a label
abbrev pub has_colon : List ℕ → Bool
has_colon bytes = begins 58 (drop (count Front bytes) bytes)

-- a line without `=`
abbrev pub unequal : List ℕ → ℕ × Wrong
unequal bytes = (count Front bytes, if has_colon bytes then wrong.Colon else wrong.NoEquals)

-- the seed's label with spaces behind it
abbrev pub is_seed_label : List ℕ → Bool
is_seed_label label = bytes_eq (take 5 label) seed_label && count Space (drop 5 label) == length (drop 5 label)

-- what stands before the first `=`, where it is no label
abbrev pub in_label : List ℕ → ℕ × Wrong
in_label label =
    if length label == 0 then (0, wrong.NoName)
    else (if has_colon label then (count Front label, wrong.Colon)
    else (count Label label, wrong.Name))

abbrev pub is_label_text : List ℕ → Bool
is_label_text label = count Label label == length label && nat_lt (count Space label) (length label)

-- a line that has a label, from behind its `=` on
abbrev pub behind_equals : Bool → List ℕ → ℕ × Wrong
behind_equals is_seed bytes = later (count Space bytes) (in_value is_seed (unspaced bytes))

-- the two sides of the first `=`
abbrev pub in_sides : (label bytes : List ℕ) → ℕ × Wrong
in_sides label bytes =
    if is_seed_label label then later (length label + 1) (behind_equals true bytes)
    else (if is_label_text label then later (length label + 1) (behind_equals false bytes)
    else in_label label)

-- the three bytes with which some programs begin a file
abbrev pub byte_order_mark : List ℕ
byte_order_mark = 239 ∷ 187 ∷ 191 ∷ []

abbrev pub has_mark : List ℕ → Bool
has_mark bytes = bytes_eq (take 3 bytes) byte_order_mark

abbrev pub in_named : List ℕ → ℕ × Wrong
in_named bytes =
    if nat_lt (count BeforeEquals bytes) (length bytes)
    then in_sides (take (count BeforeEquals bytes) bytes) (drop (count BeforeEquals bytes + 1) bytes)
    else unequal bytes

abbrev pub in_content : List ℕ → ℕ × Wrong
in_content bytes = if has_mark bytes then (0, wrong.Mark) else in_named bytes

-- a line without spaces and the byte 0D at its ends
abbrev pub diagnosis : List ℕ → ℕ × Wrong
diagnosis line = later (count Edge line) (in_content (before_trailing is_edge (drop (count Edge line) line)))
