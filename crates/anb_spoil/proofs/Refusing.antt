-- What is spoilt in the way of a row is built of no arguments.
use Rattle.std.proofs.Common.{◌≡◌, ◌≢◌, ◌+◌, ℕ, zero, suc, Bool, true, false, List, [], ◌∷◌, ◌++◌, length, take, drop, Option, Some, None, if◌then◌else◌, refl, ap, sym, ◌∙◌, arith, append_assoc, append-nil}
use Rattle.std.specs.List.{AllByRecursion}
use Rattle.std.specs.Option.{option_map}
use Rattle.std.proofs.lemmas.List.{append_cancel_left}
use Rattle.anb_base.specs.Bytes.{IsBytes}
use Rattle.anb_format.specs.declared.pieces.FieldKind.{FieldKind}
use Rattle.anb_format.specs.declared.pieces.FieldKind.TheVariants.{Len, Net, Hex, Rest}
use Rattle.anb_format.specs.declared.pieces.Piece.{Piece}
use Rattle.anb_format.specs.declared.pieces.Piece.TheVariants.{Lit, Field}
use Rattle.anb_format.specs.Fields.{field_bytes}
use Rattle.anb_format.specs.Formats.{IsParts, IsSound, field_count, format_bytes}
use Rattle.anb_format.proofs.ReadingLemmas.{RestIsLast, nothing_follows, rest_last}
use Rattle.anb_lemmas.proofs.Options.{mapped_from}
use Rattle.anb_spoil.specs.Rows.{arguments_before, arguments_from, has_rest, spoilt, with_piece, wrong_piece}
use Rattle.anb_spoil.specs.declared.rows.Row.{Row}
use Rattle.anb_spoil.specs.declared.rows.Row.TheVariants.{At, Behind}
use Rattle.anb_spoil.specs.declared.rows.Spoiling.{Spoiling}
use Rattle.anb_spoil.proofs.Peeling.{all_peeled, peeled}
use Rattle.anb_spoil.proofs.Standing.{passed_by, piece_differs}

-- ---- a wrong piece behind the first

pub behind_literal : (text : List ℕ) (pieces : List Piece) (j : ℕ) (arguments : List (List ℕ)) (wrong : List ℕ)
    → with_piece (Lit text ∷ pieces) (suc j) arguments wrong ≡ text ++ with_piece pieces j arguments wrong
behind_literal text pieces j arguments wrong =
    let next : suc j + 1 ≡ suc (j + 1) = omega arith in
    rw (next, append_assoc text, append_assoc text) refl

pub behind_field : (kind : FieldKind) (pieces : List Piece) (j : ℕ) (b : List ℕ) (arguments : List (List ℕ)) (wrong : List ℕ)
    → with_piece (Field kind ∷ pieces) (suc j) (b ∷ arguments) wrong ≡ field_bytes kind b ++ with_piece pieces j arguments wrong
behind_field kind pieces j b arguments wrong =
    let next : suc j + 1 ≡ suc (j + 1) = omega arith in
    let one : field_count (take j pieces) + 1 ≡ suc (field_count (take j pieces)) = omega arith in
    let two : field_count (take (j + 1) pieces) + 1 ≡ suc (field_count (take (j + 1) pieces)) = omega arith in
    rw (next, one, two, append_assoc (field_bytes kind b), append_assoc (field_bytes kind b)) refl

pub from_behind : (kind : FieldKind) (pieces : List Piece) (j : ℕ) (b : List ℕ) (arguments : List (List ℕ))
    → arguments_from (suc j) (Field kind ∷ pieces) (b ∷ arguments) ≡ arguments_from j pieces arguments
from_behind kind pieces j b arguments =
    let one : field_count (take j pieces) + 1 ≡ suc (field_count (take j pieces)) = omega arith in rw one refl

-- nothing follows the last piece
nothing_behind : (piece : Piece) (pieces : List Piece) (arguments : List (List ℕ)) → pieces ≡ [] → format_bytes (drop 1 (piece ∷ pieces)) (arguments_from 1 (piece ∷ pieces) arguments) ≡ []
nothing_behind piece pieces arguments e = ap (λ (ps : List Piece). format_bytes ps (arguments_from 1 (piece ∷ pieces) arguments)) e

pub no_piece : (i : ℕ) (spoiling : Spoiling) (pieces : List Piece) (arguments : List (List ℕ)) (wrong : List ℕ) → pieces ≡ [] → wrong_piece spoiling (drop i pieces) arguments ≡ Some wrong → ⊥
no_piece zero spoiling [] arguments wrong none e = cc
no_piece (suc i) spoiling [] arguments wrong none e = cc
no_piece i spoiling (piece ∷ pieces) arguments wrong none e = cc

pub piece_refused : (i : ℕ) (spoiling : Spoiling) (pieces : List Piece) (arguments others : List (List ℕ)) (wrong : List ℕ) → RestIsLast pieces
    → length arguments ≡ field_count pieces → length others ≡ field_count pieces → AllByRecursion IsBytes arguments → AllByRecursion IsBytes others
    → wrong_piece spoiling (drop i pieces) (arguments_from i pieces arguments) ≡ Some wrong
    → format_bytes pieces others ≡ with_piece pieces i arguments wrong → ⊥
piece_refused zero spoiling [] arguments others wrong last count many small other e same = absurd (cc)
piece_refused (suc i) spoiling [] arguments others wrong last count many small other e same = absurd (cc)
piece_refused zero spoiling (piece ∷ pieces) arguments others wrong last count many small other e same =
    piece_differs spoiling piece pieces arguments others wrong _ small other many (nothing_behind piece pieces arguments) e same
piece_refused (suc i) spoiling (Lit text ∷ pieces) arguments others wrong last count many small other e same =
    piece_refused i spoiling pieces arguments others wrong (rest_last _ pieces last) count many small other e
    (append_cancel_left text _ _ (same ∙ behind_literal text pieces i arguments wrong))
piece_refused (suc i) spoiling (Field kind ∷ pieces) [] others wrong last count many small other e same = absurd (omega (arith, count))
piece_refused (suc i) spoiling (Field kind ∷ pieces) (b ∷ arguments) [] wrong last count many small other e same = absurd (omega (arith, many))
piece_refused (suc i) spoiling (Field kind ∷ pieces) (b ∷ arguments) (c ∷ others) wrong last count many small other e same =
    let here = ap (wrong_piece spoiling (drop i pieces)) (sym (from_behind kind pieces i b arguments)) ∙ e in
    let ends : kind ≡ Rest → ⊥ = λ r. no_piece i spoiling pieces (arguments_from i pieces arguments) wrong (nothing_follows kind pieces r last) here in
    let both = peeled kind c b _ _ other.0 small.0 ends (same ∙ behind_field kind pieces i b arguments wrong) in
    piece_refused i spoiling pieces arguments others wrong (rest_last _ pieces last) (omega (arith, count)) (omega (arith, many)) small.1 other.1 here both.1

-- ---- a byte behind the end

byte_refused : (pieces : List Piece) (arguments others : List (List ℕ)) → has_rest pieces ≡ false → length arguments ≡ field_count pieces → length others ≡ field_count pieces
    → AllByRecursion IsBytes arguments → AllByRecursion IsBytes others → format_bytes pieces others ≡ format_bytes pieces arguments ++ 0 ∷ [] → ⊥
byte_refused pieces arguments others told count many small other same =
    let left = all_peeled pieces told others arguments many count other small [] (0 ∷ []) (append-nil (format_bytes pieces others) ∙ same) in cc

-- ---- a row

pub rows_refused : (pieces : List Piece) → RestIsLast pieces → (row : Row) (arguments : List (List ℕ)) → length arguments ≡ field_count pieces
    → AllByRecursion IsBytes arguments → (bytes : List ℕ) → spoilt pieces row arguments ≡ Some bytes → (others : List (List ℕ)) → IsParts pieces bytes others → ⊥
rows_refused pieces last (At i spoiling) arguments count small bytes e others h =
    let found = mapped_from (with_piece pieces i arguments) (wrong_piece spoiling (drop i pieces) (arguments_from i pieces arguments)) bytes e in
    piece_refused i spoiling pieces arguments others found.0 last count h.count small h.strings found.1 (h.built ∙ sym found.2)
rows_refused pieces last Behind arguments count small bytes e others h =
    let found = passed_by (has_rest pieces) (format_bytes pieces arguments ++ 0 ∷ []) bytes e in
    byte_refused pieces arguments others found.0 count h.count small h.strings (h.built ∙ sym found.1)
