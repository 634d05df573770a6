use Rattle.std.proofs.Common.{◌∙◌, map, sym, arith}
use Rattle.anb_term.specs.View.{tree_of}
use Rattle.anb_term.proofs.Lists.{slice_get-at, slice_get-map}
use Rattle.anb_trace.proofs.Held.{apart_here, apart_no_came, apart_no_due, apart_same, got_so, past_so}
use Rattle.anb_trace.proofs.differences.first_apart.Goals as goal

pub returns-in_default : goal.returns-in_default
returns-in_default c =
    sym (sym c.loop-i.invariant ∙ apart_no_due (map tree_of c.args.terms.now) c.args.dues.now c.args.cames.now c.loop-i.i (past_so c.args.dues.now c.loop-i.i c.in_default.ensures.lookup.0))

pub returns-in_default-get : goal.returns-in_default-get
returns-in_default-get c =
    sym (sym c.loop-i.invariant ∙ apart_no_came (map tree_of c.args.terms.now) c.args.dues.now c.args.cames.now c.loop-i.i (past_so c.args.cames.now c.loop-i.i c.in_default-get.ensures.lookup.0))

pub returns-then-not-is_same : goal.returns-then-not-is_same
returns-then-not-is_same c =
    let i = c.loop-i.i in
    let t = c.index-terms-i.result in
    let x = c.in-Some.due.now in
    let y = c.in-Some-get.came.now in
    sym (sym c.loop-i.invariant
    ∙ apart_here (map tree_of c.args.terms.now) c.args.dues.now c.args.cames.now i (tree_of t) x y
    c.as_slice.result.now c.as_slice-in-loop-i.result.now c.is_same.result
    (slice_get-map tree_of c.args.terms.now i t (slice_get-at c.args.terms.now i t (omega arith) c.index-terms-i.is))
    (got_so c.args.dues.now i x c.in-Some.ensures.lookup.0 c.in-Some.ensures.lookup.1) (got_so c.args.cames.now i y c.in-Some-get.ensures.lookup.0 c.in-Some-get.ensures.lookup.1)
    c.as_slice.ensures c.as_slice-in-loop-i.ensures c.is_same.ensures c.in_ok-copy.field-0 c.in_ok-copy-2.field-0 c.if-not-is_same.true c.in_ok-copy.ensures c.in_ok-copy-2.ensures)

pub loop-i-preserved : goal.loop-i-preserved
loop-i-preserved c =
    let i = c.loop-i.i in
    let t = c.index-terms-i.result in
    let x = c.in-Some.due.now in
    let y = c.in-Some-get.came.now in
    sym (apart_same (map tree_of c.args.terms.now) c.args.dues.now c.args.cames.now i (tree_of t) x y
    c.as_slice.result.now c.as_slice-in-loop-i.result.now c.is_same.result
    (slice_get-map tree_of c.args.terms.now i t (slice_get-at c.args.terms.now i t (omega arith) c.index-terms-i.is))
    (got_so c.args.dues.now i x c.in-Some.ensures.lookup.0 c.in-Some.ensures.lookup.1) (got_so c.args.cames.now i y c.in-Some-get.ensures.lookup.0 c.in-Some-get.ensures.lookup.1)
    c.as_slice.ensures c.as_slice-in-loop-i.ensures c.is_same.ensures c.if-not-is_same.false)
    ∙ c.loop-i.invariant
