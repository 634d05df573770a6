use Rattle.std.proofs.Common.{map, arith}
use Rattle.std.proofs.lemmas.Option.{slice_get_past}
use Rattle.anb_term.specs.View.{tree_of}
use Rattle.anb_term.proofs.Lists.{slice_get-at, slice_get-map}
use Rattle.anb_report.proofs.Items.{mapped_length}
use Rattle.anb_report.proofs.lists.term_at.Goals as goal

pub returns-then-r-terms-clause-some : goal.returns-then-r-terms-clause-some
returns-then-r-terms-clause-some c =
    let terms = c.args.terms.now in
    let t = c.index-terms-r.result in
    slice_get-map tree_of terms c.args.r t (slice_get-at terms c.args.r t c.if-r-terms.true c.index-terms-r.is)

pub returns-clause-none : goal.returns-clause-none
returns-clause-none c =
    let terms = c.args.terms.now in
    slice_get_past (map tree_of terms) c.args.r (omega (arith, mapped_length terms, c.if-r-terms.false))
