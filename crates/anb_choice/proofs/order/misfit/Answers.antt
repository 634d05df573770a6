use Rattle.std.proofs.Common.{Some, sym, ap, ◌∙◌, arith}
use Rattle.anb_choice.proofs.Fronts.{misfit_here, misfit_more, misfit_short}
use Rattle.anb_choice.proofs.order.misfit.Goals as goal

pub returns-then-i-marks : goal.returns-then-i-marks
returns-then-i-marks c = sym (misfit_short c.args.kinds.now c.args.marks.now c.loop-i.i (omega arith) c.if-i-marks.true) ∙ c.loop-i.invariant

pub returns-then-not-is_same_kind : goal.returns-then-not-is_same_kind
returns-then-not-is_same_kind c =
    ap Some c.place_at.ensures
    ∙ sym (misfit_here c.args.kinds.now c.args.marks.now c.loop-i.i _ c.kind_at.result c.is_same_kind.result (omega arith) (omega arith) c.is_same_kind.ensures c.kind_at.ensures c.if-not-is_same_kind.true)
    ∙ c.loop-i.invariant

pub loop-i-preserved : goal.loop-i-preserved
loop-i-preserved c =
    sym (misfit_more c.args.kinds.now c.args.marks.now c.loop-i.i _ c.kind_at.result c.is_same_kind.result (omega arith) (omega arith) c.is_same_kind.ensures c.kind_at.ensures c.if-not-is_same_kind.false)
    ∙ c.loop-i.invariant
