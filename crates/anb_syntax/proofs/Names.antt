-- Names are texts.
use Rattle.std.proofs.Common.{◌≡◌, ℕ, zero, suc, ◌<◌, List, [], ◌∷◌, true, refl, arith, Some}
use Rattle.std.specs.Prelude.{not}
use Rattle.std.specs.List.{list_all, list_any, prefix_len}
use Rattle.std.specs.Str.{IsAscii, IsUtf8, bytes_eq}
use Rattle.std.proofs.lemmas.Str.{IsUtf8-from_ascii}
use Rattle.std.proofs.lemmas.Bool.{and_parts}
use Rattle.std.proofs.lemmas.Bool.Decides.{nat_tests}
use Rattle.anb_format.specs.declared.pieces.FieldKind.{FieldKind}
use Rattle.anb_format.specs.declared.pieces.FieldKind.TheVariants.{Len, Net, Hex, Rest}
use Rattle.anb_syntax.specs.Words.{is_name_byte, is_letter, is_spelled, is_name, reserved_words, kind_of_word, kind_word}

small : (b : ℕ) → is_name_byte b ≡ true → b < 128
small b h = grind (arith, nat_tests)

all_small : (n : List ℕ) → list_all is_name_byte n ≡ true → IsAscii n
all_small [] h i = omega arith
all_small (b ∷ n) h zero = small b (and_parts (is_name_byte b) (list_all is_name_byte n) h).0
all_small (b ∷ n) h (suc i) = all_small n (and_parts (is_name_byte b) (list_all is_name_byte n) h).1 i

pub letter_is : (b : ℕ) → is_letter b ≡ true → is_name_byte b ≡ true
letter_is b e = rw e refl

spelled_small : (n : List ℕ) → is_spelled n ≡ true → IsAscii n
spelled_small [] h i = omega arith
spelled_small (b ∷ n) h i =
    let k = and_parts (is_letter b) (list_all is_name_byte n) h in
    all_small (b ∷ n) (rw (letter_is b k.0) k.1) i

pub name_utf8 : (n : List ℕ) → is_name n ≡ true → IsUtf8 n
unfolding is_name
name_utf8 n h = IsUtf8-from_ascii n (spelled_small n (and_parts (is_spelled n) (not (list_any (bytes_eq n) reserved_words)) h).0)

pub name_long : (b : ℕ) (x : List ℕ) → is_letter b ≡ true → 0 < prefix_len is_name_byte (b ∷ x)
name_long b x e = rw (letter_is b e) (omega arith)

pub kind_again : (k : FieldKind) → kind_of_word (kind_word k) ≡ Some k
kind_again Len = refl
kind_again Net = refl
kind_again Hex = refl
kind_again Rest = refl
