use Rattle.std.proofs.Common.{map, arith}
use Rattle.std.proofs.lemmas.List.{length-map}
use Rattle.std.proofs.lemmas.Option.{slice_get_past}
use Rattle.anb_term.specs.View.{tree_of}
use Rattle.anb_term.proofs.Lists.{slice_get-at, slice_get-map}
use Rattle.anb_verdict.proofs.places.operand_at.Goals as goal

pub returns-then-i-operands-clause-some : goal.returns-then-i-operands-clause-some
returns-then-i-operands-clause-some c =
    let terms = c.args.operands.now in
    let t = c.index-operands-i.result in
    slice_get-map tree_of terms c.args.i t (slice_get-at terms c.args.i t c.if-i-operands.true c.index-operands-i.is)

pub returns-clause-none : goal.returns-clause-none
returns-clause-none c =
    let terms = c.args.operands.now in
    slice_get_past (map tree_of terms) c.args.i (omega (arith, length-map terms tree_of, c.if-i-operands.false))
