-- Something isn't right with bytes exactly where no arguments build them.
use Rattle.std.proofs.Common.{◌≡◌, ◌<◌, ◌≤◌, ◌+◌, ◌^◌, ℕ, List, [], ◌∷◌, ◌++◌, length, refl, sym, ap, ◌∙◌, subst, arith, length-append}
use Rattle.anb_base.specs.Bytes.{IsBytes}
use Rattle.anb_base.proofs.Strings.{bytes_right}
use Rattle.anb_format.specs.declared.pieces.FieldKind.{FieldKind}
use Rattle.anb_format.specs.declared.pieces.FieldKind.TheVariants.{Len, Net, Hex, Rest}
use Rattle.anb_format.specs.declared.pieces.Piece.{Piece}
use Rattle.anb_format.specs.declared.pieces.Piece.TheVariants.{Lit, Field}
use Rattle.anb_format.specs.Fields.{field_bytes}
use Rattle.anb_format.specs.Formats.{IsParts, field_count, format_bytes}
use Rattle.anb_format.proofs.ReadingLemmas.{RestIsLast, nothing_built, rest_last, short_in_len, short_in_net}
use Rattle.anb_format.proofs.Narrow.{hex_long}
use Rattle.std.specs.List.{AllByRecursion}
use Rattle.hex.specs.Hex.{encode_lower}
use Rattle.anb_trace.specs.Laws.{MisfitsAreExact}
use Rattle.anb_trace.specs.Misfits.{Before, Found, Misfit, end_due, misfit_behind, misfit_from, piece_found}
use Rattle.anb_trace.proofs.Fitting.{field_again, field_is, literal_again, literal_is}

pub record HasParts (pieces : List Piece) (bytes : List ℕ) : Type 0 where
  pub arguments : List (List ℕ)
  pub parts : IsParts pieces bytes arguments

-- where nothing is told, a piece stands there, and nothing is told of what follows
behind_is : (f : Found) (next : List ℕ → List ℕ) → misfit_behind f next ≡ [] → (rest : List ℕ) × (f ≡ Before rest) × (next rest ≡ [])
behind_is (Before rest) next e = (rest, refl, e)
behind_is (Misfit place text) next e = cc

end_is : (all : ℕ) (bytes : List ℕ) → end_due all bytes ≡ [] → bytes ≡ []
end_is all [] e = refl
end_is all (b ∷ bytes) e = cc

pub built : (all field : ℕ) (pieces : List Piece) (bytes : List ℕ) → IsBytes bytes → misfit_from all field pieces bytes ≡ [] → HasParts pieces bytes
built all field [] bytes small e = record { arguments = []; parts = record { count = refl; strings = tt; built = sym (end_is all bytes e) } }
built all field (Lit text ∷ pieces) bytes small e =
    let k = behind_is (piece_found all (Lit text) field bytes) (λ rest. misfit_from all (field + 0) pieces rest) e in
    let front : bytes ≡ text ++ k.0 = literal_is all text bytes k.0 k.1 in
    let h = built all (field + 0) pieces k.0 (bytes_right text k.0 (subst IsBytes front small)) k.2 in
    record { arguments = h.arguments; parts = record { count = h.parts.count; strings = h.parts.strings; built = ap (λ (x : List ℕ). text ++ x) h.parts.built ∙ sym front } }
built all field (Field kind ∷ pieces) bytes small e =
    let k = behind_is (piece_found all (Field kind) field bytes) (λ rest. misfit_from all (field + 1) pieces rest) e in
    let f = field_is kind all field bytes k.0 small k.1 in
    let h = built all (field + 1) pieces k.0 (bytes_right (field_bytes kind f.argument) k.0 (subst IsBytes f.stands small)) k.2 in
    record {
      arguments = f.argument ∷ h.arguments;
      parts = record { count = omega (arith, h.parts.count); strings = (f.small, h.parts.strings); built = ap (λ (x : List ℕ). field_bytes kind f.argument ++ x) h.parts.built ∙ sym f.stands };
    }

short_argument : (kind : FieldKind) (b rest : List ℕ) → length b ≤ length (field_bytes kind b ++ rest)
short_argument Len b rest = short_in_len b rest (field_bytes Len b ++ rest) refl
short_argument Net b rest = omega (arith, short_in_net b rest (field_bytes Net b ++ rest) refl)
short_argument Hex b rest = omega (arith, length-append (field_bytes Hex b) rest, length-append (encode_lower b) (59 ∷ []), hex_long b)
short_argument Rest b rest = omega (arith, length-append b rest)

pub none_told : (all field : ℕ) (pieces : List Piece) (arguments : List (List ℕ)) → RestIsLast pieces → length arguments ≡ field_count pieces → AllByRecursion IsBytes arguments
    → length (format_bytes pieces arguments) < 2 ^ 32 → misfit_from all field pieces (format_bytes pieces arguments) ≡ []
none_told all field [] [] last count strings few = refl
none_told all field [] (b ∷ arguments) last count strings few = absurd (omega (arith, count))
none_told all field (Lit text ∷ pieces) arguments last count strings few =
    ap (λ (f : Found). misfit_behind f (λ x. misfit_from all (field + 0) pieces x)) (literal_again all text (format_bytes pieces arguments))
    ∙ none_told all (field + 0) pieces arguments (rest_last _ pieces last) count strings (omega (arith, few, length-append text (format_bytes pieces arguments)))
none_told all field (Field kind ∷ pieces) [] last count strings few = absurd (omega (arith, count))
none_told all field (Field kind ∷ pieces) (b ∷ arguments) last count strings few =
    let short = short_argument kind b (format_bytes pieces arguments) in
    ap (λ (f : Found). misfit_behind f (λ x. misfit_from all (field + 1) pieces x))
    (field_again kind all field b (format_bytes pieces arguments) strings.0 (omega (arith, few, short)) (nothing_built kind pieces arguments last))
    ∙ none_told all (field + 1) pieces arguments (rest_last _ pieces last) (omega (arith, count)) strings.1 (omega (arith, few, length-append (field_bytes kind b) (format_bytes pieces arguments)))

pub exact : MisfitsAreExact
exact pieces sound bytes small few = (
  λ e. let h = built (length bytes) 1 pieces bytes small e in (h.arguments, h.parts),
  λ h. subst (λ (x : List ℕ). misfit_from (length bytes) 1 pieces x ≡ []) h.1.built
      (none_told (length bytes) 1 pieces h.0 sound.rest_is_last h.1.count h.1.strings (omega (arith, few, ap length h.1.built))),
)
