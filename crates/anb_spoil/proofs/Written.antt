-- What the code writes, in the words of the definitions.
use Rattle.std.proofs.Common.{◌≡◌, ◌<◌, ◌≤◌, ◌+◌, ◌-◌, ◌==◌, ℕ, zero, suc, Bool, true, false, List, [], ◌∷◌, ◌++◌, length, take, drop, set, Option, Some, None, refl, ap, sym, ◌∙◌, arith, inl, inr, append_assoc, append-nil, length-append}
use Rattle.std.proofs.lemmas.List.{length-drop, set_at, take_at}
use Rattle.hex.specs.Hex.{encode_lower}
use Rattle.anb_base.specs.Bytes.{IsBytes-pass}
use Rattle.anb_format.specs.declared.pieces.FieldKind.{FieldKind}
use Rattle.anb_format.specs.declared.pieces.FieldKind.TheVariants.{Net, Hex}
use Rattle.anb_format.specs.declared.pieces.Piece.{Piece}
use Rattle.anb_format.specs.declared.pieces.Piece.TheVariants.{Lit, Field}
use Rattle.anb_format.specs.Fields.{decimal_digits, field_bytes, hex_bytes, leb128, len_bytes, net_bytes}
use Rattle.anb_format.specs.Formats.{IsEarlyRest, IsSound}
use Rattle.anb_lemmas.proofs.Numbers.{nat_eq-differs, nat_eq-same, same_or_not}
use Rattle.anb_spoil.specs.Rows.{wrong_hex, wrong_len, wrong_literal, wrong_net}
use Rattle.anb_spoil.specs.declared.rows.Spoiling.{Spoiling}
use Rattle.anb_spoil.specs.declared.rows.Spoiling.TheVariants.{OtherByte, LongLength, LengthBeyond, LeadingZero, Semicolon, Dot, Capitals, Comma}

-- ---- a field behind a literal

late : (kind : FieldKind) (i : ℕ) → IsEarlyRest (Lit (0 ∷ []) ∷ Field kind ∷ []) i → ⊥
late kind zero e = let bad = e.0 in cc
late kind (suc i) e = omega (arith, e.1)

-- a literal of one byte and a field
pub sound_field : (kind : FieldKind) → IsSound (Lit (0 ∷ []) ∷ Field kind ∷ [])
sound_field kind = record {
  head_stands = λ e. cc;
  rest_is_last = late kind;
  literals = (IsBytes-pass (0 ∷ []) refl, (tt, tt));
}

-- ---- one byte set

pub semicolon_set : (b : List ℕ) → set (net_bytes b) (length (net_bytes b) - length b - 2) 59 ≡ decimal_digits (length b) ++ 59 ∷ b ++ 44 ∷ []
semicolon_set b =
    let digits = decimal_digits (length b) in
    let flat : net_bytes b ≡ digits ++ 58 ∷ (b ++ 44 ∷ []) = append_assoc digits (58 ∷ b) (44 ∷ []) in
    let place : length digits ≡ length (net_bytes b) - length b - 2 = omega (arith, length-append (digits ++ 58 ∷ b) (44 ∷ []), length-append digits (58 ∷ b)) in
    ap (λ (t : List ℕ). set t (length (net_bytes b) - length b - 2) 59) flat
    ∙ set_at digits 58 (b ++ 44 ∷ []) 59 (length (net_bytes b) - length b - 2) place
    ∙ sym (append_assoc digits (59 ∷ b) (44 ∷ []))

pub dot_set : (b : List ℕ) → set (net_bytes b) (length (net_bytes b) - 1) 46 ≡ decimal_digits (length b) ++ 58 ∷ b ++ 46 ∷ []
dot_set b = set_at (decimal_digits (length b) ++ 58 ∷ b) 44 [] 46 (length (net_bytes b) - 1) (omega (arith, length-append (decimal_digits (length b) ++ 58 ∷ b) (44 ∷ [])))

pub comma_set : (b : List ℕ) → set (hex_bytes b) (length (hex_bytes b) - 1) 44 ≡ encode_lower b ++ 44 ∷ []
comma_set b = set_at (encode_lower b) 59 [] 44 (length (hex_bytes b) - 1) (omega (arith, length-append (encode_lower b) (59 ∷ [])))

pub semicolon_written : (items b : List ℕ) (place : ℕ) (spoiling : Spoiling) → spoiling ≡ Semicolon → items ≡ field_bytes Net b → place ≡ length items - length b - 2 → Some (set items place 59) ≡ wrong_net spoiling b
semicolon_written items b place spoiling is e at =
    ap (λ (t : List ℕ). Some t) (ap (λ (n : ℕ). set items n 59) at ∙ ap (λ (t : List ℕ). set t (length t - length b - 2) 59) e ∙ semicolon_set b)
    ∙ ap (λ (s : Spoiling). wrong_net s b) (sym is)

pub dot_written : (items b : List ℕ) (place : ℕ) (spoiling : Spoiling) → spoiling ≡ Dot → items ≡ field_bytes Net b → place ≡ length items - 1 → Some (set items place 46) ≡ wrong_net spoiling b
dot_written items b place spoiling is e at =
    ap (λ (t : List ℕ). Some t) (ap (λ (n : ℕ). set items n 46) at ∙ ap (λ (t : List ℕ). set t (length t - 1) 46) e ∙ dot_set b)
    ∙ ap (λ (s : Spoiling). wrong_net s b) (sym is)

pub comma_written : (items b : List ℕ) (place : ℕ) (spoiling : Spoiling) → spoiling ≡ Comma → items ≡ field_bytes Hex b → place ≡ length items - 1 → Some (set items place 44) ≡ wrong_hex spoiling b
comma_written items b place spoiling is e at =
    ap (λ (t : List ℕ). Some t) (ap (λ (n : ℕ). set items n 44) at ∙ ap (λ (t : List ℕ). set t (length t - 1) 44) e ∙ comma_set b)
    ∙ ap (λ (s : Spoiling). wrong_hex s b) (sym is)

-- ---- the length before the bytes

pub length_before : (b : List ℕ) → take (length (len_bytes b) - length b) (len_bytes b) ≡ leb128 (length b)
length_before b = take_at (leb128 (length b)) b (length (len_bytes b) - length b) (omega (arith, length-append (leb128 (length b)) b))

-- what is written for one byte more, without that byte
pub one_less : (b : List ℕ) → take (length (len_bytes (b ++ 0 ∷ [])) - 1) (len_bytes (b ++ 0 ∷ [])) ≡ leb128 (length b + 1) ++ b
one_less b =
    let more : length (b ++ 0 ∷ []) ≡ length b + 1 = length-append b (0 ∷ []) in
    let flat : len_bytes (b ++ 0 ∷ []) ≡ (leb128 (length b + 1) ++ b) ++ 0 ∷ [] =
    sym (append_assoc (leb128 (length (b ++ 0 ∷ []))) b (0 ∷ [])) ∙ ap (λ (n : ℕ). (leb128 n ++ b) ++ 0 ∷ []) more in
    ap (λ (t : List ℕ). take (length t - 1) t) flat
    ∙ take_at (leb128 (length b + 1) ++ b) (0 ∷ []) _ (omega (arith, length-append (leb128 (length b + 1) ++ b) (0 ∷ [])))

-- ---- no other way

pub literal_none : (spoiling : Spoiling) (text : List ℕ) → (spoiling ≡ OtherByte → ⊥) → wrong_literal spoiling text ≡ None
literal_none OtherByte text h = absurd (h refl)
literal_none spoiling text h = refl

pub len_none : (spoiling : Spoiling) (last : Bool) (b : List ℕ) → (spoiling ≡ LongLength → ⊥) → (spoiling ≡ LengthBeyond → ⊥) → wrong_len spoiling last b ≡ None
len_none LongLength last b g h = absurd (g refl)
len_none LengthBeyond last b g h = absurd (h refl)
len_none spoiling last b g h = refl

pub net_none : (spoiling : Spoiling) (b : List ℕ) → (spoiling ≡ LeadingZero → ⊥) → (spoiling ≡ Semicolon → ⊥) → (spoiling ≡ Dot → ⊥) → wrong_net spoiling b ≡ None
net_none LeadingZero b f g h = absurd (f refl)
net_none Semicolon b f g h = absurd (g refl)
net_none Dot b f g h = absurd (h refl)
net_none spoiling b f g h = refl

pub hex_none : (spoiling : Spoiling) (b : List ℕ) → (spoiling ≡ Capitals → ⊥) → (spoiling ≡ Comma → ⊥) → wrong_hex spoiling b ≡ None
hex_none Capitals b g h = absurd (g refl)
hex_none Comma b g h = absurd (h refl)
hex_none spoiling b g h = refl

-- ---- the last piece

pub last_test : {X : Type 0} (xs : List X) (i : ℕ) → i < length xs → (i + 1 == length xs) ≡ (length (drop (i + 1) xs) == 0)
last_test xs i below = elim (same_or_not (i + 1) (length xs)) [
  | inl e ↦
      let none : length (drop (i + 1) xs) ≡ 0 = omega (arith, length-drop (i + 1) xs) in
      rw (e, ap (λ (n : ℕ). n == 0) (ap (λ (n : ℕ). length (drop n xs)) (sym e) ∙ none)) (nat_eq-same (length xs))
  | inr differ ↦
      let some : 0 < length (drop (i + 1) xs) = omega (arith, length-drop (i + 1) xs, differ) in
      nat_eq-differs (i + 1) (length xs) differ ∙ sym (nat_eq-differs (length (drop (i + 1) xs)) 0 (λ none. omega (arith, none, some)))
]
