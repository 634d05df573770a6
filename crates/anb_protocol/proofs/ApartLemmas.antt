-- Whether formats are apart, as a test.
use Rattle.std.proofs.Common.{◌≡◌, ℕ, ◌+◌, ◌<◌, List, ◌∷◌, length, drop, get_or, ap, sym, ◌∙◌, refl, Bool, true, false, Option, Some}
use Rattle.std.specs.Prelude.{◌↔◌, not, IsTrue, nat_eq}
use Rattle.std.specs.Option.{option_or}
use Rattle.std.specs.List.{starts_with}
use Rattle.std.proofs.lemmas.Bool.{and_parts, and_from}
use Rattle.std.proofs.lemmas.Bool.Decides.{Decides-eqb}
use Rattle.std.proofs.lemmas.Slice.Eq.{starts_is}
use Rattle.std.proofs.lemmas.List.{drop_more}
use Rattle.anb_lemmas.proofs.Bools.{not_from_never, never_from_not}
use Rattle.anb_format.specs.declared.pieces.Piece.{Piece}
use Rattle.anb_format.specs.Formats.{FormatValue, head, IsPrefix, AreApart}
use Rattle.anb_protocol.specs.declared.refusals.ResolveNo.{ResolveNo}
use Rattle.anb_protocol.specs.declared.refusals.ResolveNo.TheVariants.{Overlap}
use Rattle.anb_protocol.specs.Choices.{refuse_if}
use Rattle.anb_protocol.specs.Checks.{are_apart, overlaps}

prefix_of : (xs p : List ℕ) → starts_with nat_eq xs p ≡ true → IsPrefix p xs
prefix_of xs p e = (drop (length p) xs, (starts_is Decides-eqb xs p (starts_with nat_eq xs p) refl).0 e)

of_prefix : (xs p : List ℕ) → IsPrefix p xs → starts_with nat_eq xs p ≡ true
of_prefix xs p h = (starts_is Decides-eqb xs p (starts_with nat_eq xs p) refl).1 h.0 h.1

pub apart_from : (ps qs : List Piece) → are_apart ps qs ≡ true → AreApart ps qs
apart_from ps qs e =
    let h = and_parts (not (starts_with nat_eq (head qs) (head ps))) (not (starts_with nat_eq (head ps) (head qs))) e in
    record { ahead = λ p. never_from_not _ h.0 (of_prefix (head qs) (head ps) p); behind = λ p. never_from_not _ h.1 (of_prefix (head ps) (head qs) p) }

from_apart : (ps qs : List Piece) → AreApart ps qs → are_apart ps qs ≡ true
from_apart ps qs a = and_from _ _ (not_from_never _ (λ e. a.ahead (prefix_of (head qs) (head ps) e))) (not_from_never _ (λ e. a.behind (prefix_of (head ps) (head qs) e)))

is_apart : (ps qs : List Piece) (r b : Bool) → IsTrue r ↔ AreApart ps qs → are_apart ps qs ≡ b → b ≡ r
is_apart ps qs true b h e = sym e ∙ from_apart ps qs (h.0 refl)
is_apart ps qs false true h e = sym (h.1 (apart_from ps qs e))
is_apart ps qs false false h e = refl

module _ (before : List FormatValue) (i : ℕ) (o g : FormatValue) (r : Bool) (total : Option ResolveNo) (h : i < length before) (e : o ≡ get_or before i o)
    (a : IsTrue r ↔ AreApart o.pieces g.pieces) (inv : overlaps (drop i before) g ≡ total) where
  step : option_or (refuse_if (not r) (Overlap o.name g.name)) (overlaps (drop (i + 1) before) g) ≡ total
  step =
      ap (λ b. option_or (refuse_if (not b) (Overlap o.name g.name)) (overlaps (drop (i + 1) before) g)) (sym (is_apart o.pieces g.pieces r (are_apart o.pieces g.pieces) a refl))
      ∙ sym (ap (λ fs. overlaps fs g) (drop_more before i o h ∙ ap (λ y. y ∷ drop (i + 1) before) (sym e))) ∙ inv

  pub overlap_here : r ≡ false → Some (Overlap o.name g.name) ≡ total
  overlap_here w = ap (λ b. option_or (refuse_if (not b) (Overlap o.name g.name)) (overlaps (drop (i + 1) before) g)) (sym w) ∙ step

  pub overlap_next : r ≡ true → overlaps (drop (i + 1) before) g ≡ total
  overlap_next w = ap (λ b. option_or (refuse_if (not b) (Overlap o.name g.name)) (overlaps (drop (i + 1) before) g)) (sym w) ∙ step
