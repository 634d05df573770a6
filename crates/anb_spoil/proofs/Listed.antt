-- Each row that spoils anything is one of the format's.
use Rattle.std.proofs.Common.{◌≡◌, ◌<◌, ◌+◌, ◌==◌, ℕ, zero, suc, Bool, true, false, List, [], ◌∷◌, ◌++◌, length, drop, map, Option, Some, None, Contains, if◌then◌else◌, refl, ap, sym, ◌∙◌, arith}
use Rattle.std.proofs.lemmas.List.{get_or-map, length-map}
use Rattle.std.proofs.lemmas.List.Elements.{Contains-append_left, Contains-append_right}
use Rattle.anb_format.specs.declared.pieces.FieldKind.TheVariants.{Len, Net, Hex, Rest}
use Rattle.anb_format.specs.declared.pieces.Piece.{Piece}
use Rattle.anb_format.specs.declared.pieces.Piece.TheVariants.{Lit, Field}
use Rattle.anb_lemmas.proofs.Options.{mapped_from}
use Rattle.anb_spoil.specs.Rows.{arguments_from, has_rest, rows_from, rows_of, spoilings_of, spoilt, with_piece, wrong_hex, wrong_len, wrong_literal, wrong_net, wrong_piece}
use Rattle.anb_spoil.specs.declared.rows.Row.{Row}
use Rattle.anb_spoil.specs.declared.rows.Row.TheVariants.{At, Behind}
use Rattle.anb_spoil.specs.declared.rows.Spoiling.{Spoiling}
use Rattle.anb_spoil.specs.declared.rows.Spoiling.TheVariants.{OtherByte, LongLength, LengthBeyond, LeadingZero, Semicolon, Dot, Capitals, Comma}

-- ---- the ways of a piece

len_listed : (spoiling : Spoiling) (last : Bool) (b wrong : List ℕ) → wrong_len spoiling last b ≡ Some wrong → Contains (spoilings_of (Field Len) last) spoiling
len_listed LongLength last b wrong e = (0, omega arith, refl)
len_listed LengthBeyond true b wrong e = (1, omega arith, refl)
len_listed LengthBeyond false b wrong e = absurd (cc)
len_listed spoiling last b wrong e = absurd (cc)

net_listed : (spoiling : Spoiling) (last : Bool) (b wrong : List ℕ) → wrong_net spoiling b ≡ Some wrong → Contains (spoilings_of (Field Net) last) spoiling
net_listed LeadingZero last b wrong e = (0, omega arith, refl)
net_listed Semicolon last b wrong e = (1, omega arith, refl)
net_listed Dot last b wrong e = (2, omega arith, refl)
net_listed spoiling last b wrong e = absurd (cc)

hex_listed : (spoiling : Spoiling) (last : Bool) (b wrong : List ℕ) → wrong_hex spoiling b ≡ Some wrong → Contains (spoilings_of (Field Hex) last) spoiling
hex_listed Capitals last b wrong e = (0, omega arith, refl)
hex_listed Comma last b wrong e = (1, omega arith, refl)
hex_listed spoiling last b wrong e = absurd (cc)

literal_listed : (spoiling : Spoiling) (text wrong : List ℕ) (last : Bool) → wrong_literal spoiling text ≡ Some wrong → Contains (spoilings_of (Lit text) last) spoiling
literal_listed OtherByte [] wrong last e = absurd (cc)
literal_listed OtherByte (b ∷ text) wrong last e = (0, omega arith, refl)
literal_listed spoiling text wrong last e = absurd (cc)

piece_listed : (spoiling : Spoiling) (piece : Piece) (pieces : List Piece) (arguments : List (List ℕ)) (wrong : List ℕ) → wrong_piece spoiling (piece ∷ pieces) arguments ≡ Some wrong
    → Contains (spoilings_of piece (length pieces == 0)) spoiling
piece_listed spoiling (Lit text) pieces arguments wrong e = literal_listed spoiling text wrong (length pieces == 0) e
piece_listed spoiling (Field Len) pieces [] wrong e = absurd (cc)
piece_listed spoiling (Field Len) pieces (b ∷ arguments) wrong e = len_listed spoiling (length pieces == 0) b wrong e
piece_listed spoiling (Field Net) pieces [] wrong e = absurd (cc)
piece_listed spoiling (Field Net) pieces (b ∷ arguments) wrong e = net_listed spoiling (length pieces == 0) b wrong e
piece_listed spoiling (Field Hex) pieces [] wrong e = absurd (cc)
piece_listed spoiling (Field Hex) pieces (b ∷ arguments) wrong e = hex_listed spoiling (length pieces == 0) b wrong e
piece_listed spoiling (Field Rest) pieces arguments wrong e = absurd (cc)

-- ---- the rows of the pieces

mapped_in : {A B : Type 0} (f : A → B) (xs : List A) (x : A) → Contains xs x → Contains (map f xs) (f x)
mapped_in f xs x h = (h.0, omega (arith, h.1, length-map xs f), get_or-map f xs h.0 x (f x) h.1 ∙ ap f h.2)

-- the rows of the pieces from place j on have that of the piece i further on
listed_from : (i j : ℕ) (spoiling : Spoiling) (pieces : List Piece) (arguments : List (List ℕ)) (wrong : List ℕ) → wrong_piece spoiling (drop i pieces) arguments ≡ Some wrong
    → Contains (rows_from j pieces) (At (j + i) spoiling)
listed_from zero j spoiling [] arguments wrong e = absurd (cc)
listed_from (suc i) j spoiling [] arguments wrong e = absurd (cc)
listed_from zero j spoiling (piece ∷ pieces) arguments wrong e =
    let here : j + 0 ≡ j = omega arith in
    rw here (Contains-append_left (map (At j) (spoilings_of piece (length pieces == 0))) (rows_from (j + 1) pieces) (At j spoiling)
    (mapped_in (At j) (spoilings_of piece (length pieces == 0)) spoiling (piece_listed spoiling piece pieces arguments wrong e)))
listed_from (suc i) j spoiling (piece ∷ pieces) arguments wrong e =
    let next : j + suc i ≡ j + 1 + i = omega arith in
    rw next (Contains-append_right (map (At j) (spoilings_of piece (length pieces == 0))) (rows_from (j + 1) pieces) (At (j + 1 + i) spoiling)
    (listed_from i (j + 1) spoiling pieces arguments wrong e))

behind_listed : (rest : Bool) (this bytes : List ℕ) → (if rest then None else Some this) ≡ Some bytes → Contains (if rest then [] else Behind ∷ []) Behind
behind_listed true this bytes e = absurd (cc)
behind_listed false this bytes e = (0, omega arith, refl)

pub rows_all : (pieces : List Piece) (row : Row) (arguments : List (List ℕ)) (bytes : List ℕ) → spoilt pieces row arguments ≡ Some bytes → Contains (rows_of pieces) row
rows_all pieces (At i spoiling) arguments bytes e =
    let found = mapped_from (with_piece pieces i arguments) (wrong_piece spoiling (drop i pieces) (arguments_from i pieces arguments)) bytes e in
    let from : 0 + i ≡ i = omega arith in
    let listed = listed_from i 0 spoiling pieces (arguments_from i pieces arguments) found.0 found.1 in
    Contains-append_left (rows_from 0 pieces) (if has_rest pieces then [] else Behind ∷ []) (At i spoiling) (rw from at listed)
rows_all pieces Behind arguments bytes e =
    Contains-append_right (rows_from 0 pieces) (if has_rest pieces then [] else Behind ∷ []) Behind (behind_listed (has_rest pieces) _ bytes e)
