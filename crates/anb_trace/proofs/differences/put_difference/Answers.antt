use Rattle.std.proofs.Common.{◌≡◌, ◌++◌, Bool, map, sym, subst}
use Rattle.anb_lemmas.proofs.Results.{on_ok_map}
use Rattle.anb_term.specs.View.{tree_of}
use Rattle.anb_trace.specs.Inside.{difference_of, difference_over}
use Rattle.anb_trace.proofs.Placed.{told_come, told_unfit}
use Rattle.anb_trace.proofs.differences.put_difference.Goals as goal

pub returns-then-came : goal.returns-then-came
returns-then-came c =
    let holding = c.args.holding.now in
    let p = c.args.protocol.now in
    let d = difference_of (tree_of c.args.term.now) c.args.sides in
    subst (λ (b : Bool). c.extend_from_slice.new.self.items ≡ c.args.out.now.items ++ difference_over p holding b d) (sym c.if-came.true)
    (told_come p holding.code.now (map tree_of holding.terms.now) holding.registers.now d c.in_ok-inner.inner.due c.in_ok-inner.inner.came
    c.args.out.now.items c.put_place.new.out.items c.put_both.new.out.items c.extend_from_slice.new.self.items
    c.in_ok-inner.ensures.place c.in_ok-inner.ensures.due c.in_ok-inner.ensures.came c.in_ok-put_both.ensures c.in_ok-extend_from_slice.ensures.items)

pub returns : goal.returns
returns c =
    let holding = c.args.holding.now in
    let p = c.args.protocol.now in
    let d = difference_of (tree_of c.args.term.now) c.args.sides in
    on_ok_map c.put_both-2.result
    (λ put. subst (λ (b : Bool). c.put_both-2.new.out.items ≡ c.args.out.now.items ++ difference_over p holding b d) (sym c.if-came.false)
    (told_unfit p holding.code.now (map tree_of holding.terms.now) holding.registers.now d c.in_ok-inner-2.inner.due c.in_ok-inner-2.inner.came
    c.args.out.now.items c.extend_from_slice-2.new.self.items c.put_place-2.new.out.items c.put_both-2.new.out.items
    c.in_ok-extend_from_slice-2.ensures.items c.in_ok-inner-2.ensures.place c.in_ok-inner-2.ensures.due c.in_ok-inner-2.ensures.came put))
    c.put_both-2.ensures
