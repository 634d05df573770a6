-- Which formats have an operator.
use Rattle.std.proofs.Common.{◌≡◌, ◌<◌, ℕ, List, [], length, get_or, true, false, ◌&&◌, Some, None, Option, refl, ap, ◌∙◌}
use Rattle.std.specs.Prelude.{slice_get, ◌==◌}
use Rattle.std.specs.Option.{option_map_or}
use Rattle.std.proofs.lemmas.Bool.{eq-eqb, eqb-true, and_parts}
use Rattle.anb_lemmas.proofs.Lists.{got_within}
use Rattle.anb_format.specs.Formats.{FormatValue, field_count, is_sound, pieces_at}
use Rattle.anb_term.specs.declared.term.Op.TheVariants.{Format}
use Rattle.anb_term.proofs.Lists.{slice_get-at}
use Rattle.anb_algebra.specs.ByteMeaning.{has_operator, StandsAt}

operators_at : (found : Option FormatValue) (fields : ℕ) → ((format : FormatValue) → found ≡ Some format → is_sound format.pieces ≡ true)
    → (option_map_or (λ (format : FormatValue). is_sound format.pieces && (field_count format.pieces == fields)) found false ≡ true → (format : FormatValue) × (found ≡ Some format) × (field_count format.pieces ≡ fields))
    × ((format : FormatValue) × (found ≡ Some format) × (field_count format.pieces ≡ fields) → option_map_or (λ (format : FormatValue). is_sound format.pieces && (field_count format.pieces == fields)) found false ≡ true)
operators_at None fields sound = (λ e. absurd (cc e), λ s. absurd (cc s.1))
operators_at (Some format) fields sound = (
  λ e. (format, refl, eqb-true (field_count format.pieces) fields (and_parts (is_sound format.pieces) (field_count format.pieces == fields) e).1),
  λ s. let same : format ≡ s.0 = cc s.1 in
      rw (sound format refl) (eq-eqb (field_count format.pieces) fields (ap (λ (f : FormatValue). field_count f.pieces) same ∙ s.2)),
)

-- of sound formats exactly those that stand there have an operator
pub operators_from : (formats : List FormatValue) (i fields : ℕ) → ((k : ℕ) (format : FormatValue) → slice_get formats k ≡ Some format → is_sound format.pieces ≡ true)
    → (has_operator formats (Format i fields) ≡ true → StandsAt formats i fields) × (StandsAt formats i fields → has_operator formats (Format i fields) ≡ true)
operators_from formats i fields sound = operators_at (slice_get formats i) fields (sound i)

has_place : (found : Option FormatValue) (fields : ℕ) → option_map_or (λ (format : FormatValue). is_sound format.pieces && (field_count format.pieces == fields)) found false ≡ true → (format : FormatValue) × (found ≡ Some format)
has_place None fields e = absurd (cc e)
has_place (Some format) fields e = (format, refl)

-- an operator's format stands in the list
pub has_within : (formats : List FormatValue) (i fields : ℕ) → has_operator formats (Format i fields) ≡ true → i < length formats
has_within formats i fields e = let there = has_place (slice_get formats i) fields e in got_within formats i there.0 there.1

pub pieces_at-there : (formats : List FormatValue) (i : ℕ) (format : FormatValue) → i < length formats → format ≡ get_or formats i format → pieces_at formats i ≡ format.pieces
pieces_at-there formats i format h e = ap (λ (found : Option FormatValue). option_map_or (λ (f : FormatValue). f.pieces) found []) (slice_get-at formats i format h e)
