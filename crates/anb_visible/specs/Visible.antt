-- Bytes as a terminal may have them.
use Rattle.std.specs.Prelude.{◌≡◌, ℕ, ◌/◌, ◌%◌, ◌==◌, nat_lt, Bool, false, not, ◌&&◌, ◌||◌, if◌then◌else◌, List, [], ◌∷◌, ◌++◌, codes, IsUtf8}
use Rattle.std.specs.Char.{digit_char}
use Rattle.std.specs.List.{AllByRecursion, flat_map}
use Rattle.std.specs.Str.{is_utf8}

-- a control byte, but for the one that ends a line
abbrev pub is_control : ℕ → Bool
is_control b = (nat_lt b 32 && not (b == 10)) || b == 127

-- a byte as `\x1b`
abbrev pub escaped : ℕ → List ℕ
escaped b = codes "\\x" ++ digit_char (b / 16) ∷ digit_char (b % 16) ∷ []

abbrev pub shown_byte : ℕ → List ℕ
shown_byte b = if is_control b then escaped b else b ∷ []

-- bytes from 80 up that stand together: as they are where they are UTF-8, and else each escaped
abbrev pub shown_run : List ℕ → List ℕ
shown_run run = if is_utf8 run then run else flat_map escaped run

-- bytes, and before them some from 80 up
abbrev pub shown_after : (run bytes : List ℕ) → List ℕ
shown_after run [] = shown_run run
shown_after run (b ∷ bytes) =
    if nat_lt b 128 then shown_run run ++ (shown_byte b ++ shown_after [] bytes)
    else shown_after (run ++ b ∷ []) bytes

-- control bytes, and what isn't UTF-8, as `\x1b`, and all else as it is
abbrev pub visible : List ℕ → List ℕ
visible bytes = shown_after [] bytes

-- a text without control bytes but line ends
pub record IsClean (text : List ℕ) : Type 0 where
  pub utf8 : IsUtf8 text
  pub calm : AllByRecursion (λ b. is_control b ≡ false) text
