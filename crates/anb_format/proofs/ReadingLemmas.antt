-- What pieces build is read as its arguments.
use Rattle.std.proofs.Common.{◌≡◌, ◌<◌, ◌≤◌, ◌+◌, ◌-◌, ◌&&◌, ℕ, suc, List, [], ◌∷◌, ◌++◌, length, take, drop, get_or, Bor, MatchOption, IsSomeAnd, Option, Some, true, false, Bool, refl, ap, sym, ◌∙◌, arith, append_assoc, append-nil, length-append, None, if◌then◌else◌}
use Rattle.std.proofs.lemmas.List.{append_cancel_left, drop_all, drop_at, drop_more, take_all, take_at, take_more}
use Rattle.std.specs.Str.{bytes_eq}
use Rattle.std.proofs.lemmas.Bool.{and_parts}
use Rattle.std.proofs.lemmas.Slice.Eq.{bytes_eq-Decides}
use Rattle.std.specs.List.{AllByRecursion, list_all}
use Rattle.anb_base.specs.Bytes.{IsBytes, IsBytes-pass, is_bytes, is_bytes-IsBytes}
use Rattle.anb_format.specs.declared.pieces.FieldKind.{FieldKind}
use Rattle.anb_format.specs.declared.pieces.FieldKind.TheVariants.{Len, Net, Hex, Rest}
use Rattle.anb_format.specs.declared.pieces.Piece.{Piece}
use Rattle.anb_format.specs.declared.pieces.Piece.TheVariants.{Lit, Field}
use Rattle.anb_format.specs.Fields.{decimal_digits, field_bytes, leb128}
use Rattle.anb_format.specs.Formats.{HasParts, IsBytesPiece, IsParts, IsEarlyRest, field_count, format_bytes}
use Rattle.anb_format.specs.Reading.{arguments_at, decimal_at, field_at, leb128_at, parts_of}
use Rattle.anb_format.proofs.Leb128.{leb128_again}
use Rattle.anb_format.proofs.Decimals.{decimal_again}
use Rattle.anb_format.proofs.Hexadecimals.{hex_again}
use Rattle.hex.specs.Hex.{encode_lower}

pub net_regrouped : (b rest : List ℕ) → field_bytes Net b ++ rest ≡ decimal_digits (length b) ++ 58 ∷ (b ++ 44 ∷ rest)
net_regrouped b rest = simp append_assoc

pub hex_regrouped : (b rest : List ℕ) → field_bytes Hex b ++ rest ≡ encode_lower b ++ 59 ∷ rest
hex_regrouped b rest = simp append_assoc

-- what follows an argument and one byte
pub after_one : (b rest : List ℕ) (last : ℕ) → drop (length b + 1) (b ++ last ∷ rest) ≡ rest
after_one b rest last =
    ap (λ (t : List ℕ). drop (length b + 1) t) (sym (append_assoc b (last ∷ []) rest))
    ∙ drop_at (b ++ last ∷ []) rest (length b + 1) (omega (arith, length-append b (last ∷ [])))

-- a field is read as its argument
pub field_again : (kind : FieldKind) (b rest : List ℕ) → IsBytes b → (kind ≡ Rest → rest ≡ []) → field_at kind (field_bytes kind b ++ rest) ≡ (b, rest)
field_again Len b rest small last =
    let read : leb128_at ((leb128 (length b) ++ b) ++ rest) ≡ (length b, b ++ rest) = rw append_assoc (leb128_again (length b) (b ++ rest)) in
    rw (read, take_at b rest (length b) refl, drop_at b rest (length b) refl) refl
field_again Net b rest small last =
    let read : decimal_at 0 (field_bytes Net b ++ rest) ≡ (length b, b ++ 44 ∷ rest) = rw net_regrouped (decimal_again (length b) (b ++ 44 ∷ rest)) in
    let after : drop (length b + 1) (b ++ 44 ∷ rest) ≡ rest = after_one b rest 44 in
    rw (read, take_at b (44 ∷ rest) (length b) refl, after) refl
field_again Hex b rest small last = rw hex_regrouped (hex_again b rest small)
field_again Rest b rest small last = rw (last refl, append-nil) refl

-- nothing follows a `rest`
abbrev pub RestIsLast : List Piece → Type 0
RestIsLast pieces = (i : ℕ) → IsEarlyRest pieces i → ⊥

pub rest_last : (piece : Piece) (pieces : List Piece) → RestIsLast (piece ∷ pieces) → RestIsLast pieces
rest_last piece pieces h i e = h (suc i) (e.0, omega (arith, e.1))

pub nothing_follows : (kind : FieldKind) (pieces : List Piece) → kind ≡ Rest → RestIsLast (Field kind ∷ pieces) → pieces ≡ []
nothing_follows kind [] e h = refl
nothing_follows kind (p ∷ pieces) e h = absurd (h 0 (ap (λ (k : FieldKind). Some (Field k)) e, omega arith))

pub nothing_built : (kind : FieldKind) (pieces : List Piece) (arguments : List (List ℕ)) → RestIsLast (Field kind ∷ pieces) → kind ≡ Rest → format_bytes pieces arguments ≡ []
nothing_built kind pieces arguments h e = ap (λ (ps : List Piece). format_bytes ps arguments) (nothing_follows kind pieces e h)

-- what is built of byte strings is read as them
pub arguments_again : (pieces : List Piece) (arguments : List (List ℕ)) → RestIsLast pieces → length arguments ≡ field_count pieces → AllByRecursion IsBytes arguments
    → arguments_at pieces (format_bytes pieces arguments) ≡ arguments
arguments_again [] [] h count strings = refl
arguments_again [] (a ∷ arguments) h count strings = absurd (omega (arith, count))
arguments_again (Lit text ∷ pieces) arguments h count strings =
    rw (drop_at text (format_bytes pieces arguments) (length text) refl) (arguments_again pieces arguments (rest_last _ pieces h) count strings)
arguments_again (Field kind ∷ pieces) [] h count strings = absurd (omega (arith, count))
arguments_again (Field kind ∷ pieces) (a ∷ arguments) h count strings =
    let read = field_again kind a (format_bytes pieces arguments) strings.0 (nothing_built kind pieces arguments h) in
    rw read (ap (λ (t : List (List ℕ)). a ∷ t) (arguments_again pieces arguments (rest_last _ pieces h) (omega (arith, count)) strings.1))

-- as many arguments are read as there are fields
length-arguments_at : (pieces : List Piece) (bytes : List ℕ) → length (arguments_at pieces bytes) ≡ field_count pieces
length-arguments_at [] bytes = refl
length-arguments_at (Lit text ∷ pieces) bytes = length-arguments_at pieces (drop (length text) bytes)
length-arguments_at (Field kind ∷ pieces) bytes = omega (arith, length-arguments_at pieces (field_at kind bytes).1)

all_pass : (bs : List (List ℕ)) → AllByRecursion IsBytes bs → list_all is_bytes bs ≡ true
all_pass [] strings = refl
all_pass (b ∷ bs) strings = rw (is_bytes-IsBytes b strings.0, all_pass bs strings.1) refl

passed_all : (bs : List (List ℕ)) → list_all is_bytes bs ≡ true → AllByRecursion IsBytes bs
passed_all [] passed = tt
passed_all (b ∷ bs) passed = let parts = and_parts (is_bytes b) (list_all is_bytes bs) passed in (IsBytes-pass b parts.0, passed_all bs parts.1)

chosen : (test : Bool) (x y : List (List ℕ)) → (if test then Some x else None) ≡ Some y → (test ≡ true) × (x ≡ y)
chosen true x y e = (refl, cc)
chosen false x y e = absurd (cc)

-- what the computation gives builds the bytes
pub parts_of-builds : (pieces : List Piece) (bytes : List ℕ) (arguments : List (List ℕ)) → parts_of pieces bytes ≡ Some arguments → IsParts pieces bytes arguments
parts_of-builds pieces bytes arguments e =
    let found = chosen (list_all is_bytes (arguments_at pieces bytes) && bytes_eq (format_bytes pieces (arguments_at pieces bytes)) bytes) _ _ e in
    let tests = and_parts (list_all is_bytes (arguments_at pieces bytes)) (bytes_eq (format_bytes pieces (arguments_at pieces bytes)) bytes) found.0 in
    let same = found.1 in record {
      count = ap length (sym same) ∙ length-arguments_at pieces bytes;
      strings = rw same at (passed_all (arguments_at pieces bytes) tests.0);
      built = rw same at ((bytes_eq-Decides (format_bytes pieces (arguments_at pieces bytes)) bytes).0 tests.1);
    }

-- what builds the bytes is what the computation gives
pub parts_of-built : (pieces : List Piece) (bytes : List ℕ) (arguments : List (List ℕ)) → RestIsLast pieces → IsParts pieces bytes arguments → parts_of pieces bytes ≡ Some arguments
parts_of-built pieces bytes arguments last h =
    let read : arguments_at pieces bytes ≡ arguments = ap (λ (t : List ℕ). arguments_at pieces t) (sym h.built) ∙ arguments_again pieces arguments last h.count h.strings in
    let equal : bytes_eq (format_bytes pieces arguments) bytes ≡ true = (bytes_eq-Decides (format_bytes pieces arguments) bytes).1 h.built in
    rw (read, all_pass arguments h.strings, equal) refl

pub parts_unique : (pieces : List Piece) (bytes : List ℕ) (arguments others : List (List ℕ)) → RestIsLast pieces → IsParts pieces bytes arguments → IsParts pieces bytes others → arguments ≡ others
parts_unique pieces bytes arguments others last g h =
    let one = parts_of-built pieces bytes arguments last g in
    let other = parts_of-built pieces bytes others last h in cc

-- an argument is shorter than what it stands in
pub short_in_net : (b rest bytes : List ℕ) → bytes ≡ field_bytes Net b ++ rest → length b < length bytes
short_in_net b rest bytes e = omega (arith, ap length e, length-append (field_bytes Net b) rest, length-append (decimal_digits (length b) ++ 58 ∷ b) (44 ∷ []), length-append (decimal_digits (length b)) (58 ∷ b))

pub short_in_len : (b rest bytes : List ℕ) → bytes ≡ field_bytes Len b ++ rest → length b ≤ length bytes
short_in_len b rest bytes e = omega (arith, ap length e, length-append (field_bytes Len b) rest, length-append (leb128 (length b)) b)

-- a `rest` is all that is left
pub all_of_it : (bytes b rest : List ℕ) → bytes ≡ b ++ rest → rest ≡ [] → (bytes ≡ b) × (take (length bytes - length bytes) (drop (length bytes) bytes) ≡ rest)
all_of_it bytes b rest e last =
    (e ∙ ap (λ (t : List ℕ). b ++ t) last ∙ append-nil b, rw (drop_all (length bytes) bytes (omega arith), last) (take_all (length bytes - length bytes) [] (omega arith)))

pub with_last : (pieces : List Piece) (piece : Piece) → AllByRecursion IsBytesPiece pieces → IsBytesPiece piece → AllByRecursion IsBytesPiece (pieces ++ piece ∷ [])
with_last [] piece all one = (one, tt)
with_last (p ∷ pieces) piece all one = (all.0, with_last pieces piece all.1 one)

-- the piece at i stands at the front of those from i on
pub next_piece : (pieces : List Piece) (i : ℕ) (piece : Piece) → i < length pieces → piece ≡ get_or pieces i piece → drop i pieces ≡ piece ∷ drop (i + 1) pieces
next_piece pieces i piece within at = drop_more pieces i piece within ∙ ap (λ (p : Piece). p ∷ drop (i + 1) pieces) (sym at)

pub nothing_after : (piece : Piece) (pieces : List Piece) → RestIsLast (piece ∷ pieces) → piece ≡ Field Rest → pieces ≡ []
nothing_after piece [] h e = refl
nothing_after piece (p ∷ pieces) h e = absurd (h 0 (ap (λ (q : Piece). Some q) e, omega arith))

pub field_count-cons : (piece : Piece) (pieces : List Piece) → field_count (piece ∷ pieces) ≡ field_count (piece ∷ []) + field_count pieces
field_count-cons (Lit text) pieces = omega arith
field_count-cons (Field kind) pieces = omega arith

pub field_count_le : (pieces : List Piece) → field_count pieces ≤ length pieces
field_count_le [] = omega arith
field_count_le (Lit text ∷ pieces) = omega (arith, field_count_le pieces)
field_count_le (Field kind ∷ pieces) = omega (arith, field_count_le pieces)

-- a literal was taken from the front
pub literal_taken : (text bytes after : List ℕ) (pieces : List Piece) (arguments wanted : List (List ℕ)) → IsParts (Lit text ∷ pieces) bytes wanted → bytes ≡ text ++ after
    → HasParts pieces after arguments (arguments ++ wanted)
literal_taken text bytes after pieces arguments wanted h e = record {
  others = wanted;
  parts = record { count = h.count; strings = h.strings; built = append_cancel_left text _ _ (h.built ∙ e) };
  joined = refl;
}

-- the first of the arguments is that of the field
pub record FieldFirst (kind : FieldKind) (pieces : List Piece) (bytes : List ℕ) (wanted : List (List ℕ)) : Type 0 where
  pub first : List ℕ
  pub others : List (List ℕ)
  pub whole : wanted ≡ first ∷ others
  pub small : IsBytes first
  pub front : bytes ≡ field_bytes kind first ++ format_bytes pieces others
  pub parts : IsParts pieces (format_bytes pieces others) others

pub field_first : (kind : FieldKind) (pieces : List Piece) (bytes : List ℕ) (wanted : List (List ℕ)) → IsParts (Field kind ∷ pieces) bytes wanted → FieldFirst kind pieces bytes wanted
field_first kind pieces bytes [] h = absurd (omega (arith, h.count))
field_first kind pieces bytes (b ∷ others) h = record {
  first = b;
  others = others;
  whole = refl;
  small = h.strings.0;
  front = sym h.built;
  parts = record { count = omega (arith, h.count); strings = h.strings.1; built = refl };
}

-- a field was taken from the front
pub field_taken : (kind : FieldKind) (pieces : List Piece) (bytes argument after : List ℕ) (arguments wanted : List (List ℕ)) (h : FieldFirst kind pieces bytes wanted)
    → (argument ≡ h.first) × (after ≡ format_bytes pieces h.others) → HasParts pieces after (arguments ++ argument ∷ []) (arguments ++ wanted)
field_taken kind pieces bytes argument after arguments wanted h e = record {
  others = h.others;
  parts = record { count = h.parts.count; strings = h.parts.strings; built = sym e.1 };
  joined =
      ap (λ (t : List (List ℕ)). arguments ++ t) (h.whole ∙ ap (λ (b : List ℕ). b ∷ h.others) (sym e.0))
      ∙ sym (append_assoc arguments (argument ∷ []) h.others);
}

-- where no byte strings build the bytes, the computation gives none
from_none : (o : Option (List (List ℕ))) → ((x : List (List ℕ)) → o ≡ Some x → ⊥) → o ≡ None
from_none None h = refl
from_none (Some x) h = absurd (h x refl)

pub parts_of-none : (pieces : List Piece) (bytes : List ℕ) → ((arguments : List (List ℕ)) → IsParts pieces bytes arguments → ⊥) → parts_of pieces bytes ≡ None
parts_of-none pieces bytes h = from_none (parts_of pieces bytes) (λ arguments e. h arguments (parts_of-builds pieces bytes arguments e))

-- the same of what std's `strip_prefix` answers
pub stripped : (text bytes : List ℕ) (pieces : List Piece) (arguments wanted : List (List ℕ)) (r : Option (Bor (List ℕ)))
    → MatchOption r (bytes_eq (take (length text) bytes) text ≡ false) (λ x. (bytes_eq (take (length text) bytes) text ≡ true) × (x.now ≡ drop (length text) bytes) × (length x.now + length text ≡ length bytes))
    → IsParts (Lit text ∷ pieces) bytes wanted → IsSomeAnd r (λ after. HasParts pieces after.now arguments (arguments ++ wanted))
stripped text bytes pieces arguments wanted None cases h =
    let front : take (length text) bytes ≡ text = rw (sym h.built) (take_at text (format_bytes pieces wanted) (length text) refl) in
    let equal = (bytes_eq-Decides (take (length text) bytes) text).1 front in absurd (cc (cases, equal))
stripped text bytes pieces arguments wanted (Some after) cases h =
    let rest : after.now ≡ format_bytes pieces wanted = cases.1 ∙ rw (sym h.built) (drop_at text (format_bytes pieces wanted) (length text) refl) in
    literal_taken text bytes after.now pieces arguments wanted h (sym h.built ∙ ap (λ (t : List ℕ). text ++ t) (sym rest))

-- what holds of the pieces before i and of the one there holds of one more
pub one_piece_more : (pieces : List Piece) (i : ℕ) (piece : Piece) → i < length pieces → piece ≡ get_or pieces i piece → IsBytesPiece piece → AllByRecursion IsBytesPiece (take i pieces)
    → AllByRecursion IsBytesPiece (take (i + 1) pieces)
one_piece_more pieces i piece within at one before =
    let same : take (i + 1) pieces ≡ take i pieces ++ piece ∷ [] = take_more pieces i piece within ∙ ap (λ (p : Piece). take i pieces ++ p ∷ []) (sym at) in
    rw same (with_last (take i pieces) piece before one)
