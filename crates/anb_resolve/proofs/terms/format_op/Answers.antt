use Rattle.std.proofs.Common.{ap, ◌∙◌, arith}
use Rattle.std.specs.Str.{bytes_eq}
use Rattle.anb_format.specs.Formats.{FormatValue}
use Rattle.anb_term.specs.declared.term.Op.TheVariants.{Format}
use Rattle.anb_protocol.specs.Protocols.{fields_at, format_number}
use Rattle.anb_protocol.proofs.PlaceLemmas.{place_low}
use Rattle.anb_resolve.proofs.terms.format_op.Goals as goal

pub overflow_cast-result : goal.overflow_cast-result
overflow_cast-result c = let low = place_low (λ (f : FormatValue). bytes_eq f.name c.args.name.now) 0 c.args.formats.now in omega (arith, low, c.format_number-place.ensures, c.requires.formats)

pub returns : goal.returns
returns c =
    let formats = c.args.formats.now in
    ap (λ i. Format i c.fields_at.result) c.format_number-place.ensures
    ∙ ap (λ a. Format (format_number formats c.args.name.now) a) (c.fields_at.ensures ∙ ap (fields_at formats) c.format_number-place.ensures)
