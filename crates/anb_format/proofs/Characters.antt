-- Characters of a literal: what stands at the front of a text, and that it is read in one way.
use Rattle.std.proofs.Common.{◌≡◌, ◌≢◌, ◌≤◌, ◌<◌, ◌+◌, ◌-◌, ◌*◌, ℕ, List, [], ◌∷◌, ◌++◌, length, take, drop, get_or, Some, refl, ap, sym, ◌∙◌, arith, append_assoc, append-nil, length-append}
use Rattle.std.proofs.lemmas.List.{map-append, take_all}
use Rattle.std.proofs.lemmas.Grind.{flat_map-append}
use Rattle.std.specs.List.{AllByRecursion, flat_map}
use Rattle.hex.specs.Hex.{hex_digit_value}
use Rattle.anb_format.specs.Literals.{AreCharactersAt, Character, Plain, Quote, Backslash, Hexadecimal, IsAllowed, IsCharacterAt, byte_of, spelling_of}

-- a byte that stands for itself
pub plain : (text : List ℕ) → 1 ≤ length text → 0x20 ≤ get_or text 0 0 → get_or text 0 0 ≤ 0x7e → get_or text 0 0 ≢ 34 → get_or text 0 0 ≢ 92
    → IsCharacterAt text (get_or text 0 0) (take (length text - 1) (drop 1 text))
plain [] some low high quote backslash = absurd (omega arith)
plain (b ∷ rest) some low high quote backslash = record {
  character = Plain b;
  allowed = (low, high, quote, backslash);
  stands = ap (λ (xs : List ℕ). b ∷ xs) (sym (take_all (length (b ∷ rest) - 1) rest (omega arith)));
  means = refl;
}

-- `\x` and two digits
pub hexadecimal : (text : List ℕ) (x y : ℕ) → 3 ≤ length text → get_or text 0 0 ≡ 120 → hex_digit_value (get_or text 1 0) ≡ Some x → hex_digit_value (get_or text 2 0) ≡ Some y
    → IsCharacterAt (92 ∷ text) (x * 16 + y) (take (length text - 3) (drop 3 text))
hexadecimal [] x y some first high low = absurd (omega arith)
hexadecimal (a ∷ []) x y some first high low = absurd (omega arith)
hexadecimal (a ∷ h ∷ []) x y some first high low = absurd (omega arith)
hexadecimal (a ∷ h ∷ l ∷ rest) x y some first high low = record {
  character = Hexadecimal h l;
  allowed = (rw high refl, rw low refl);
  stands = ap (λ (b : ℕ). 92 ∷ b ∷ h ∷ l ∷ rest) first ∙ ap (λ (xs : List ℕ). 92 ∷ 120 ∷ h ∷ l ∷ xs) (sym (take_all (length (a ∷ h ∷ l ∷ rest) - 3) rest (omega arith)));
  means = rw (high, low) refl;
}

-- a character takes a byte at least
pub takes_some : (character : Character) → 0 < length (spelling_of character)
takes_some (Plain b) = omega arith
takes_some Quote = omega arith
takes_some Backslash = omega arith
takes_some (Hexadecimal high low) = omega arith

pub shorter : (text rest : List ℕ) (b : ℕ) → IsCharacterAt text b rest → length rest < length text
shorter text rest b h = omega (arith, takes_some h.character, length-append (spelling_of h.character) rest, ap length h.stands)

all-append : (xs : List Character) (y : Character) → AllByRecursion IsAllowed xs → IsAllowed y → AllByRecursion IsAllowed (xs ++ y ∷ [])
all-append [] y all one = (one, tt)
all-append (x ∷ xs) y all one = (all.0, all-append xs y all.1 one)

-- one character more
pub one_more : (text bytes rest after : List ℕ) (b : ℕ) → AreCharactersAt text bytes rest → IsCharacterAt rest b after → AreCharactersAt text (bytes ++ b ∷ []) after
one_more text bytes rest after b some one = record {
  characters = some.characters ++ one.character ∷ [];
  allowed = all-append some.characters one.character some.allowed one.allowed;
  stands =
      some.stands ∙ ap (λ (t : List ℕ). flat_map spelling_of some.characters ++ t) one.stands
      ∙ rw flat_map-append (simp (append_assoc, append-nil));
  means = rw (some.means, one.means) (sym (map-append byte_of some.characters (one.character ∷ [])));
}
