-- The tokens of a text.
use Rattle.std.specs.Prelude.{◌≡◌, ℕ, suc, ◌+◌, ◌*◌, List, [], ◌∷◌, take, drop, Bool, false, ◌==◌, ◌&&◌, ◌||◌, nat_le, Option, Some, None, if◌then◌else◌}
use Rattle.std.specs.List.{prefix_len}
use Rattle.hex.specs.Hex.{hex_digit_value}
use Rattle.anb_syntax.specs.Words.{Word, name, literal, sign, end, bad, Tok, is_letter, is_name_byte}

abbrev pub is_blank : ℕ → Bool
is_blank b = b == 32 || b == 9 || b == 10 || b == 13

-- how many bytes stand before the next token: blanks, and comments up to the next line or the end
abbrev mutual
  pub gap_len : List ℕ → ℕ
  gap_len [] = 0
  gap_len (b ∷ x) = if is_blank b then suc (gap_len x) else (if b == 35 then suc (comment_len x) else 0)

  pub comment_len : List ℕ → ℕ
  comment_len [] = 0
  comment_len (b ∷ x) = if b == 10 then suc (gap_len x) else suc (comment_len x)

-- a character before the others: the byte that it stands for, and how many bytes it takes
abbrev pub before : ℕ → ℕ → Option (List ℕ × ℕ) → Option (List ℕ × ℕ)
before b n None = None
before b n (Some r) = Some (b ∷ r.0, n + r.1)

abbrev pub digits_before : Option ℕ → Option ℕ → Option (List ℕ × ℕ) → Option (List ℕ × ℕ)
digits_before (Some high) (Some low) others = before (high * 16 + low) 4 others
digits_before _ _ others = None

-- the bytes that the characters up to the closing quote stand for, and how many bytes there are with the quote
abbrev mutual
  pub characters_here : List ℕ → Option (List ℕ × ℕ)
  characters_here [] = None
  characters_here (b ∷ x) =
      if b == 34 then Some ([], 1)
      else (if b == 92 then escaped_here x
      else (if nat_le 0x20 b && nat_le b 0x7e then before b 1 (characters_here x) else None))

  -- the same behind `\`
  pub escaped_here : List ℕ → Option (List ℕ × ℕ)
  escaped_here [] = None
  escaped_here (b ∷ x) = if b == 34 || b == 92 then before b 2 (characters_here x) else (if b == 120 then digits_here x else None)

  -- the same behind `\x`
  pub digits_here : List ℕ → Option (List ℕ × ℕ)
  digits_here [] = None
  digits_here (high ∷ []) = None
  digits_here (high ∷ low ∷ x) = digits_before (hex_digit_value high) (hex_digit_value low) (characters_here x)

-- the literal at the front behind its opening quote, and its length
abbrev pub quoted : Option (List ℕ × ℕ) → Option (Word × ℕ)
quoted None = None
quoted (Some r) = Some (literal r.0, suc r.1)

abbrev pub is_sign : ℕ → Bool
is_sign b = b == 58 || b == 59 || b == 44 || b == 40 || b == 41 || b == 61

abbrev pub begins_with : ℕ → List ℕ → Bool
begins_with c [] = false
begins_with c (b ∷ x) = b == c

-- the token at the front, and its length: a name as long as possible, a literal that is closed, or a sign
abbrev pub token_here : List ℕ → Option (Word × ℕ)
token_here [] = None
token_here (b ∷ x) =
    if is_letter b then Some (name (take (prefix_len is_name_byte (b ∷ x)) (b ∷ x)), prefix_len is_name_byte (b ∷ x))
    else (if b == 34 then quoted (characters_here x)
    else (if is_sign b then Some (sign b, 1)
    else (if b == 45 && begins_with 62 x then Some (sign 45, 2) else None)))

-- a token and its others; or the end, or a place where no token begins, and nothing more
abbrev pub LexesHere : (ℕ → Type 0) → Type 0 → List ℕ → Option (Word × ℕ) → Word → Type 0
LexesHere Others last [] None w = (w ≡ end) × last
LexesHere Others last (b ∷ x) None w = (w ≡ bad) × last
LexesHere Others last x (Some t) w = (w ≡ t.0) × Others t.1

-- These are the tokens of a text, which begins at this offset. Its end, or the place where no token begins, is the last.
abbrev pub Lexes : ℕ → List ℕ → List Tok → Type 0
Lexes at x [] = ⊥
Lexes at x (t ∷ ts) =
    let y = drop (gap_len x) x in
    (t.at ≡ at + gap_len x) × LexesHere (λ n. Lexes (at + gap_len x + n) (drop n y) ts) (ts ≡ []) y (token_here y) t.word
