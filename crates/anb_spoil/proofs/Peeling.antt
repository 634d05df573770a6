-- What two lists of arguments build alike at the front is built of the same arguments.
use Rattle.std.proofs.Common.{◌≡◌, ◌≢◌, ◌+◌, ℕ, suc, true, false, List, [], ◌∷◌, ◌++◌, length, refl, ap, sym, ◌∙◌, arith, append_assoc}
use Rattle.std.specs.List.{AllByRecursion}
use Rattle.std.proofs.lemmas.List.{append_cancel_left}
use Rattle.anb_base.specs.Bytes.{IsBytes}
use Rattle.anb_format.specs.declared.pieces.FieldKind.{FieldKind}
use Rattle.anb_format.specs.declared.pieces.FieldKind.TheVariants.{Len, Net, Hex, Rest}
use Rattle.anb_format.specs.declared.pieces.Piece.{Piece}
use Rattle.anb_format.specs.declared.pieces.Piece.TheVariants.{Lit, Field}
use Rattle.anb_format.specs.Fields.{field_bytes}
use Rattle.anb_format.specs.Formats.{field_count, format_bytes}
use Rattle.anb_format.specs.Reading.{field_at}
use Rattle.anb_format.proofs.ReadingLemmas.{field_again}
use Rattle.anb_spoil.specs.Rows.{has_rest}

-- a field that tells its end
pub peeled : (kind : FieldKind) (b c xs ys : List ℕ) → IsBytes b → IsBytes c → (kind ≡ Rest → ⊥) → field_bytes kind b ++ xs ≡ field_bytes kind c ++ ys
    → (b ≡ c) × (xs ≡ ys)
peeled kind b c xs ys small other ends e =
    let one = field_again kind b xs small (λ r. absurd (ends r)) in
    let two = field_again kind c ys other (λ r. absurd (ends r)) in
    let both : (b, xs) ≡ (c, ys) = sym one ∙ ap (field_at kind) e ∙ two in
    (ap (λ (p : List ℕ × List ℕ). p.0) both, ap (λ (p : List ℕ × List ℕ). p.1) both)

-- a field's kind, and that of the pieces behind it
pub ends_itself : (kind : FieldKind) (pieces : List Piece) → has_rest (Field kind ∷ pieces) ≡ false → (kind ≡ Rest → ⊥) × (has_rest pieces ≡ false)
ends_itself Len pieces e = ((λ r. cc), e)
ends_itself Net pieces e = ((λ r. cc), e)
ends_itself Hex pieces e = ((λ r. cc), e)
ends_itself Rest pieces e = absurd (cc)

-- all pieces of a format whose end is told
pub all_peeled : (pieces : List Piece) → has_rest pieces ≡ false → (arguments others : List (List ℕ)) → length arguments ≡ field_count pieces → length others ≡ field_count pieces
    → AllByRecursion IsBytes arguments → AllByRecursion IsBytes others → (xs ys : List ℕ)
    → format_bytes pieces arguments ++ xs ≡ format_bytes pieces others ++ ys → xs ≡ ys
all_peeled [] told arguments others count many small other xs ys e = e
all_peeled (Lit text ∷ pieces) told arguments others count many small other xs ys e =
    let left = append_cancel_left text _ _ (sym (append_assoc text (format_bytes pieces arguments) xs) ∙ e ∙ append_assoc text (format_bytes pieces others) ys) in
    all_peeled pieces told arguments others count many small other xs ys left
all_peeled (Field kind ∷ pieces) told [] others count many small other xs ys e = absurd (omega (arith, count))
all_peeled (Field kind ∷ pieces) told (b ∷ arguments) [] count many small other xs ys e = absurd (omega (arith, many))
all_peeled (Field kind ∷ pieces) told (b ∷ arguments) (c ∷ others) count many small other xs ys e =
    let ends = ends_itself kind pieces told in
    let both = peeled kind b c _ _ small.0 other.0 ends.0 (sym (append_assoc (field_bytes kind b) (format_bytes pieces arguments) xs) ∙ e ∙ append_assoc (field_bytes kind c) (format_bytes pieces others) ys) in
    all_peeled pieces ends.1 arguments others (omega (arith, count)) (omega (arith, many)) small.1 other.1 xs ys both.1
