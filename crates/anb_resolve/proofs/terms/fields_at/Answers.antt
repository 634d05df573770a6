use Rattle.std.proofs.Common.{◌≤◌, length, ap, sym, ◌∙◌, refl, arith}
use Rattle.std.specs.Option.{option_map_or}
use Rattle.std.proofs.lemmas.Option.{slice_get_read, slice_get_past}
use Rattle.anb_lemmas.proofs.Each.{each_holds}
use Rattle.anb_format.specs.Formats.{FormatValue, field_count}
use Rattle.anb_resolve.proofs.terms.fields_at.Goals as goal

pub arity-requires : goal.arity-requires
arity-requires c = each_holds (λ (f : FormatValue). field_count f.pieces ≤ 32) c.args.formats.now c.args.place c.index-formats-place.result (omega arith) c.index-formats-place.is c.requires.fields

pub returns-then-place-formats : goal.returns-then-place-formats
returns-then-place-formats c =
    c.arity.ensures ∙ sym (ap (λ o. option_map_or (λ (f : FormatValue). field_count f.pieces) o 0) (slice_get_read c.args.formats.now (length c.args.formats.now) c.args.place c.index-formats-place.result refl (omega arith) c.index-formats-place.is))

pub returns-else-place-formats : goal.returns-else-place-formats
returns-else-place-formats c = sym (ap (λ o. option_map_or (λ (f : FormatValue). field_count f.pieces) o 0) (slice_get_past c.args.formats.now c.args.place (omega arith)))
