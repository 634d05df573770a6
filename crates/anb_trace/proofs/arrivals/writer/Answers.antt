use Rattle.std.proofs.Common.{◌≤◌, List, sym, subst}
use Rattle.std.specs.List.{AllByRecursion}
use Rattle.anb_base.specs.declared.TheConstants.{ARRIVAL, WIDE}
use Rattle.anb_format.specs.Formats.{FormatValue, field_count}
use Rattle.anb_compile.proofs.Valuing.{few_fields}
use Rattle.anb_trace.proofs.arrivals.writer.Goals as goal

pub count_written-count-requires : goal.count_written-count-requires
count_written-count-requires c =
    let P : List FormatValue → Type 0 = λ l. AllByRecursion (λ (format : FormatValue). field_count format.pieces ≤ 32) l in
    subst P (sym c.formats-formats.ensures.formats) (few_fields ARRIVAL WIDE c.args.code.now c.formats-formats.ensures.verified)
