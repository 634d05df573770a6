-- The fields of the pieces before a place and from there on.
use Rattle.std.proofs.Common.{◌≡◌, ◌≤◌, ◌+◌, ap, ℕ, zero, suc, List, [], ◌∷◌, take, drop, arith}
use Rattle.anb_format.specs.declared.pieces.Piece.{Piece}
use Rattle.anb_format.specs.declared.pieces.Piece.TheVariants.{Lit, Field}
use Rattle.anb_format.specs.Formats.{field_count}

pub fields_halved : (i : ℕ) (pieces : List Piece) → field_count (take i pieces) + field_count (drop i pieces) ≡ field_count pieces
fields_halved zero pieces = omega arith
fields_halved (suc i) [] = omega arith
fields_halved (suc i) (Lit text ∷ pieces) = fields_halved i pieces
fields_halved (suc i) (Field kind ∷ pieces) = omega (arith, fields_halved i pieces)

-- there are as many arguments as fields before a place, and those that are left are of the fields from there on
pub fields_enough : (i : ℕ) (before all pieces : List Piece) (n count : ℕ) → n ≡ field_count before → before ≡ take i all → all ≡ pieces → count ≡ field_count pieces → n ≤ count
fields_enough i before all pieces n count f e g h = omega (arith, f, ap field_count e, fields_halved i all, ap field_count g, h)

pub fields_left : (i : ℕ) (before from all pieces : List Piece) (n count left : ℕ) → n ≡ field_count before → before ≡ take i all → from ≡ drop i all → all ≡ pieces → count ≡ field_count pieces
    → left + n ≡ count → left ≡ field_count from
fields_left i before from all pieces n count left f e d g h l = omega (arith, f, ap field_count e, ap field_count d, fields_halved i all, ap field_count g, h, l)
