-- Formats by their names.
use Rattle.std.proofs.Common.{◌≡◌, ℕ, suc, ◌+◌, true, List, [], ◌∷◌, length, Option, Some, None, inl, inr, slice_get, refl, sym, ap, ◌∙◌, arith}
use Rattle.std.specs.List.{find}
use Rattle.std.proofs.lemmas.Bool.{cases_Bool, eqb-true}
use Rattle.anb_format.specs.Formats.{FormatValue, field_count, pieces_at}
use Rattle.anb_code.specs.declared.raw.What.{What}
use Rattle.anb_code.specs.declared.raw.What.TheVariants.{Take, Fresh, Recv, Hash, Mac, Seal, Unseal, Wrap, Unwrap, Build, Parse, Equal, Send}
use Rattle.anb_code.specs.RawValue.{RawInstrValue}
use Rattle.anb_code.specs.Registers.{count_written}
use Rattle.anb_code.specs.Spelling.{instr_of, is_named, place_of, spelled}
use Rattle.anb_code.specs.Table.{CountsAre, HasCounts, has_fields, has_its_format}

-- the place is that of the first format with the name
pub slice_get-place_of : (formats : List FormatValue) (name : List ℕ) → slice_get formats (place_of formats name) ≡ find (is_named name) formats
slice_get-place_of [] name = refl
slice_get-place_of (format ∷ formats) name = elim (cases_Bool (is_named name format)) [
  | inl here ↦ rw here refl
  | inr other ↦
      let next : 1 + place_of formats name ≡ suc (place_of formats name) = omega arith in
      rw (other, next) (slice_get-place_of formats name)
]

pub pieces_at-place_of : (formats : List FormatValue) (name : List ℕ) (format : FormatValue) → find (is_named name) formats ≡ Some format → pieces_at formats (place_of formats name) ≡ format.pieces
pieces_at-place_of formats name format found = rw (slice_get-place_of formats name, found) refl

-- a format that has so many fields is there
pub has_fields_there : (found : Option FormatValue) (count : ℕ) → has_fields found count ≡ true → (format : FormatValue) × (found ≡ Some format) × (field_count format.pieces ≡ count)
has_fields_there None count e = cc
has_fields_there (Some format) count e = (format, refl, eqb-true (field_count format.pieces) count e)

-- an instruction writes as many registers as it names
module _ (formats : List FormatValue) (to : List ℕ) (name args : List ℕ) where
  abbrev Instr : What → RawInstrValue
  Instr what = record { to = to; what = what; name = name; args = args }

  counted : (what : What) → CountsAre what (length to) (length args) → has_its_format formats (Instr what) what ≡ true → count_written formats (spelled formats name args what) ≡ length to
  counted Take counts has = sym counts.0
  counted Fresh counts has = sym counts.0
  counted Recv counts has = sym counts.0
  counted Hash counts has = sym counts.0
  counted Mac counts has = sym counts.0
  counted Seal counts has = sym counts.0
  counted Unseal counts has = sym counts.0
  counted Wrap counts has = sym counts.0
  counted Unwrap counts has = sym counts.0
  counted Build counts has = sym counts
  counted Parse counts has = let there = has_fields_there (find (is_named name) formats) (length to) has in ap field_count (pieces_at-place_of formats name there.0 there.1) ∙ there.2
  counted Equal counts has = sym counts.0
  counted Send counts has = sym counts.0

pub count_written-instr_of : (formats : List FormatValue) (raw : RawInstrValue) → HasCounts raw → has_its_format formats raw raw.what ≡ true → count_written formats (instr_of formats raw) ≡ length raw.to
count_written-instr_of formats raw counts has = counted formats raw.to raw.name raw.args raw.what counts has
