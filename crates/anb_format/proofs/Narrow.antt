-- How long built bytes and their parts are.
use Rattle.std.proofs.Common.{◌≡◌, ◌<◌, ◌≤◌, ◌+◌, ◌*◌, ◌/◌, ◌^◌, ℕ, zero, suc, List, [], ◌∷◌, ◌++◌, length, refl, ap, subst, arith, inl, inr, add-one, length-append}
use Rattle.std.proofs.Math.Nat.{pow-suc}
use Rattle.std.specs.List.{AllByRecursion, AllZip}
use Rattle.std.proofs.lemmas.Bool.{cases_lt}
use Rattle.hex.specs.Hex.{encode_lower, encode_with}
use Rattle.anb_format.specs.Fields.{leb128, decimal_digits, field_bytes}
use Rattle.anb_format.specs.Formats.{IsParts, field_count, format_bytes}
use Rattle.anb_format.specs.Widths.{field_width, format_width, pieces_width}
use Rattle.anb_format.specs.declared.pieces.FieldKind.{FieldKind}
use Rattle.anb_format.specs.declared.pieces.FieldKind.TheVariants.{Len, Net, Hex, Rest}
use Rattle.anb_format.specs.declared.pieces.Piece.{Piece}
use Rattle.anb_format.specs.declared.pieces.Piece.TheVariants.{Lit, Field}
use Rattle.anb_format.proofs.Leb128.{leb128_small, leb128_large}
use Rattle.anb_format.proofs.Decimals.{few_digits}
use Rattle.anb_format.specs.declared.pieces.FieldKind.TheVariants as kind

leb128_short : (k n : ℕ) → n < 128 ^ (k + 1) → length (leb128 n) ≤ k + 1
leb128_short zero n h = rw (leb128_small n (omega (arith, h))) (omega arith)
leb128_short (suc k) n h = elim (cases_lt n 128) [
  | inl small ↦ rw (leb128_small n small) (omega arith)
  | inr large ↦
      let step : 128 ^ (suc k + 1) ≡ 128 ^ suc k * 128 = rw (add-one, pow-suc) refl in
      let one : suc k ≡ k + 1 = omega arith in
      let less : n / 128 < 128 ^ suc k = omega (arith, step, h) in
      let bound : n / 128 < 128 ^ (k + 1) = subst (λ j. n / 128 < 128 ^ j) one less in
      rw (leb128_large n large) (omega (arith, leb128_short k (n / 128) bound))
]

pub hex_long : (b : List ℕ) → length (encode_lower b) ≡ 2 * length b
unfolding encode_with
hex_long [] = refl
hex_long (x ∷ b) = omega (arith, hex_long b)

-- a field is at most as wide as its argument says, and no shorter than the argument
field_narrow : (k : FieldKind) (b : List ℕ) (width : ℕ) → length b ≤ width → width < 2 ^ 64 → length (field_bytes k b) ≤ field_width k width
field_narrow Len b width h small =
    omega (arith, length-append (leb128 (length b)) b, leb128_short 9 (length b) (omega (arith, h, small)), h)
field_narrow Net b width h small =
    omega (arith, length-append (decimal_digits (length b) ++ 58 ∷ b) (44 ∷ []), length-append (decimal_digits (length b)) (58 ∷ b), few_digits 19 (suc (length b)) (length b) (omega (arith, h, small)), h)
field_narrow Hex b width h small = omega (arith, length-append (encode_lower b) (59 ∷ []), hex_long b, h)
field_narrow Rest b width h small = h

argument_short : (k : FieldKind) (b : List ℕ) → length b ≤ length (field_bytes k b)
argument_short Len b = omega (arith, length-append (leb128 (length b)) b)
argument_short Net b = omega (arith, length-append (decimal_digits (length b) ++ 58 ∷ b) (44 ∷ []), length-append (decimal_digits (length b)) (58 ∷ b))
argument_short Hex b = omega (arith, length-append (encode_lower b) (59 ∷ []), hex_long b)
argument_short Rest b = omega arith

pub pieces_narrow : (pieces : List Piece) (arguments : List (List ℕ)) (widths : List ℕ) → AllZip (λ (b : List ℕ) (w : ℕ). length b ≤ w) arguments widths
    → AllByRecursion (λ w. w < 2 ^ 64) widths → length (format_bytes pieces arguments) ≤ pieces_width pieces widths
pieces_narrow [] arguments widths h small = omega arith
pieces_narrow (Lit text ∷ pieces) arguments widths h small = omega (arith, length-append text (format_bytes pieces arguments), pieces_narrow pieces arguments widths h small)
pieces_narrow (Field k ∷ pieces) [] widths h small = omega arith
pieces_narrow (Field k ∷ pieces) (b ∷ arguments) [] h small = absurd h
pieces_narrow (Field k ∷ pieces) (b ∷ arguments) (w ∷ widths) h small =
    omega (arith, length-append (field_bytes k b) (format_bytes pieces arguments), field_narrow k b w h.0 small.0, pieces_narrow pieces arguments widths h.1 small.1)

pub built_narrow : (least : ℕ) (pieces : List Piece) (arguments : List (List ℕ)) (widths : List ℕ) → AllZip (λ (b : List ℕ) (w : ℕ). length b ≤ w) arguments widths
    → AllByRecursion (λ w. w < 2 ^ 64) widths → length (format_bytes pieces arguments) ≤ format_width least pieces widths
built_narrow least pieces arguments widths h small = omega (arith, pieces_narrow pieces arguments widths h small)

parts_within : (n : ℕ) (pieces : List Piece) (arguments : List (List ℕ)) → length arguments ≡ field_count pieces → length (format_bytes pieces arguments) ≤ n → AllByRecursion (λ b. length b ≤ n) arguments
parts_within n [] [] count h = tt
parts_within n [] (b ∷ arguments) count h = absurd (omega (arith, count))
parts_within n (Lit text ∷ pieces) arguments count h = parts_within n pieces arguments count (omega (arith, h, length-append text (format_bytes pieces arguments)))
parts_within n (Field k ∷ pieces) [] count h = tt
parts_within n (Field k ∷ pieces) (b ∷ arguments) count h =
    let long = length-append (field_bytes k b) (format_bytes pieces arguments) in
    (omega (arith, h, long, argument_short k b), parts_within n pieces arguments (omega (arith, count)) (omega (arith, h, long)))

pub parts_narrow : (pieces : List Piece) (bytes : List ℕ) (arguments : List (List ℕ)) → IsParts pieces bytes arguments → AllByRecursion (λ b. length b ≤ length bytes) arguments
parts_narrow pieces bytes arguments is = parts_within (length bytes) pieces arguments is.count (omega (arith, ap length is.built))

pub field_within : (k : FieldKind) (w v : ℕ) → v ≤ 4 * w → field_width k v ≤ 4 * field_width k w
field_within kind.Len w v h = omega arith
field_within kind.Net w v h = omega arith
field_within kind.Hex w v h = omega arith
field_within kind.Rest w v h = h
