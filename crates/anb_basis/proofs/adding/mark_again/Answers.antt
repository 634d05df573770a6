use Rattle.std.proofs.Common.{◌+◌, true, arith, sym, subst, ◌∙◌}
use Rattle.std.proofs.Math.ListN.{set, length-set}
use Rattle.anb_term.proofs.Lists.{slice_get-at}
use Rattle.anb_basis.proofs.Again.{IsMarked, marked_next, marks_are}
use Rattle.anb_basis.proofs.adding.mark_again.Goals as goal

pub returns : goal.returns
returns c es ms given long = marks_are es c.args.given.now ms c.loop-check.marks.items c.loop-check.check-index given (omega (arith, long, c.loop-check.invariant.long)) (omega arith) c.loop-check.invariant.marked

pub loop-check-preserved : goal.loop-check-preserved
loop-check-preserved c =
    let i = c.loop-check.invariant in
    let ms = c.loop-check.marks.items in
    let x = c.check-item.result in
    let here = slice_get-at c.args.given.now c.loop-check.check-index x (omega arith) c.check-item.is in
    let next = marked_next c.args.given.now ms c.loop-check.check-index x i.marked here (omega (arith, c.entry_of-at.ensures, i.long)) in
    record {
      long = length-set ms c.entry_of-at.result true ∙ i.long;
      marked = subst (λ a. IsMarked c.args.given.now (set ms a true) (c.loop-check.check-index + 1)) (sym c.entry_of-at.ensures) next;
    }
