-- The lines of a values text.
use Rattle.std.specs.Prelude.{◌≡◌, ◌<◌, ◌==◌, ◌⊎◌, ◌||◌, ◌-◌, not, ℕ, Bool, true, false, List, [], ◌∷◌, ◌++◌, ◌+◌, length, take, drop, filter, codes, Option, Some, None, option_to_list, Ok}
use Rattle.std.specs.List.{prefix_len, suffix_len, before_first, after_first, slice_split, AllPass, AllZip, flat_map}
use Rattle.std.specs.Char.{is_ascii_alphanumeric}
use Rattle.hex.specs.Hex.{decode_of}
use Rattle.anb_format.specs.Literals.{IsLiteral}
use Rattle.anb_values.specs.declared.lines.Entry.{Entry}

-- the bytes 20 and 09
abbrev pub is_space : ℕ → Bool
is_space b = b == 32 || b == 9

-- spaces and the byte 0D
abbrev pub is_edge : ℕ → Bool
is_edge b = is_space b || b == 13

abbrev pub after_leading : (ℕ → Bool) → List ℕ → List ℕ
after_leading drops bytes = drop (prefix_len drops bytes) bytes

abbrev pub before_trailing : (ℕ → Bool) → List ℕ → List ℕ
before_trailing drops bytes = take (length bytes - suffix_len drops bytes) bytes

-- a line without spaces and 0D at both ends
abbrev pub content : List ℕ → List ℕ
content line = before_trailing is_edge (after_leading is_edge line)

-- nothing, or a comment
abbrev pub is_passed_over : List ℕ → Bool
is_passed_over [] = true
is_passed_over (b ∷ bs) = b == 35

-- what stands before the first `=`, without spaces
abbrev pub label_text : List ℕ → List ℕ
label_text bytes = filter (λ b. not (is_space b)) (before_first (λ b. b == 61) bytes)

-- what stands after it, without spaces at the front; where there is no `=`, nothing
abbrev pub value_text : List ℕ → List ℕ
value_text bytes = after_leading is_space (after_first (λ b. b == 61) bytes)

-- letters, digits, `_`, `(`, `)` and `,`
abbrev pub is_label_byte : ℕ → Bool
is_label_byte b = is_ascii_alphanumeric b || b == 95 || b == 40 || b == 41 || b == 44

abbrev pub IsLabel : List ℕ → Type 0
IsLabel label = (0 < length label) × AllPass is_label_byte label

abbrev pub seed_label : List ℕ
seed_label = codes "@seed"

-- `x` and two hexadecimal digits of either case for each of these bytes
abbrev pub IsHex : List ℕ → List ℕ → Type 0
IsHex text bytes = (digits : List ℕ) × (text ≡ 120 ∷ digits) × (decode_of digits ≡ Ok bytes)

abbrev pub IsValue : List ℕ → List ℕ → Type 0
IsValue text bytes = IsLiteral text bytes ⊎ IsHex text bytes

-- these are the bytes of a line with this label, whose value is written so; a seed has 32, in hexadecimal
abbrev pub IsGiven : List ℕ → List ℕ → List ℕ → Type 0
IsGiven label text bytes = (IsLabel label × IsValue text bytes) ⊎ ((label ≡ seed_label) × IsHex text bytes × (length bytes ≡ 32))

-- the label and the value of a line with this content
abbrev pub Gives : List ℕ → Entry → Type 0
Gives bytes entry = (entry.label ≡ label_text bytes) × IsGiven entry.label (value_text bytes) entry.value

-- a line of the grammar is passed over, or has a label and a value
abbrev pub Says : List ℕ → Option Entry → Type 0
Says line None = is_passed_over (content line) ≡ true
Says line (Some entry) = (is_passed_over (content line) ≡ false) × Gives (content line) entry

-- what stands between the bytes 0A; a last line that is empty is passed over, as any other
abbrev pub lines_of : List ℕ → List (List ℕ)
lines_of text = slice_split (λ b. b == 10) text

-- the lines are of the grammar, and these are their labels and values, in order
abbrev pub AreSaid : List (List ℕ) → List Entry → Type 0
AreSaid lines entries = (said : List (Option Entry)) × AllZip Says lines said × (entries ≡ flat_map option_to_list said)

-- the first line that isn't of the grammar, numbered from 1
abbrev pub IsFirstFaulty : List (List ℕ) → ℕ → Type 0
IsFirstFaulty lines n = (before : List (List ℕ)) × (line : List ℕ) × (after : List (List ℕ)) × (entries : List Entry)
    × (lines ≡ before ++ line ∷ after) × (n ≡ length before + 1) × AreSaid before entries × ((said : Option Entry) → Says line said → ⊥)
