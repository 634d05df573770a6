use Rattle.std.proofs.Common.{Err, sym, ap, ◌∙◌, arith}
use Rattle.anb_choice.proofs.Places.{grown}
use Rattle.anb_choice.proofs.Spans.{arms_done, arms_few, arms_full, arms_misfit, left_is, next_so_far, span_is, stops}
use Rattle.anb_choice.proofs.order.arms.Goals as goal

pub arms-preserved : goal.arms-preserved
arms-preserved c =
    let rest = c.arms.rest.now in
    let on = stops c.kind_at.result _ c.is_same_kind.result _ c.is_same_kind.ensures c.kind_at.ensures c.arms-test.true in
    let fits = sym c.misfit.ensures ∙ c.in_default.is in
    record {
      few = omega (arith, grown _ _ _ c.in_ok-push.ensures.items, c.len.ensures, c.if-len-eq-MOST.false, c.arms.invariant.few, c.arms.spans.ok.0);
      so_far = next_so_far c.args.marks.now c.arms.spans.items rest c.push.new.self.items _ c.behind-rest.result.now c.arms.invariant.so_far
          c.in_ok-push.ensures.items
          (span_is rest c.past_at.result c.past_at-in-arms.result c.arm_size-size.result c.behind.result.now c.past_at.ensures c.behind.ensures c.arm_size-size.ensures.size c.past_at-in-arms.ensures)
          (left_is rest c.behind-in-arms.result.now c.behind-rest.result.now c.arm_size-size.result c.behind-in-arms.ensures c.arm_size-size.ensures.size c.behind-rest.ensures)
          (omega (arith, c.len.ensures, c.if-len-eq-MOST.false, c.arms.invariant.few, c.arms.spans.ok.0)) on fits;
    }

pub returns-then-len-lt-FEWEST : goal.returns-then-len-lt-FEWEST
returns-then-len-lt-FEWEST c =
    let off = stops c.kind_at.result _ c.is_same_kind.result _ c.is_same_kind.ensures c.kind_at.ensures c.arms-test.false in
    arms_few c.args.marks.now c.arms.spans.items c.arms.rest.now c.arms.invariant.so_far (omega (arith, c.len-2.ensures, c.if-len-lt-FEWEST.true, c.arms.spans.ok.0)) off ∙ ap Err (sym c.place_at-then-len-lt-FEWEST.ensures)

pub returns : goal.returns
returns c =
    let off = stops c.kind_at.result _ c.is_same_kind.result _ c.is_same_kind.ensures c.kind_at.ensures c.arms-test.false in
    arms_done c.args.marks.now c.arms.spans.items c.arms.rest.now c.arms.invariant.so_far (omega (arith, c.len-2.ensures, c.if-len-lt-FEWEST.false, c.arms.spans.ok.0)) off

pub returns-then-len-eq-MOST : goal.returns-then-len-eq-MOST
returns-then-len-eq-MOST c =
    let on = stops c.kind_at.result _ c.is_same_kind.result _ c.is_same_kind.ensures c.kind_at.ensures c.arms-test.true in
    arms_full c.args.marks.now c.arms.spans.items c.arms.rest.now c.arms.invariant.so_far (omega (arith, c.len.ensures, c.if-len-eq-MOST.true, c.arms.spans.ok.0)) on ∙ ap Err (sym c.place_at.ensures)

pub returns-in-Some : goal.returns-in-Some
returns-in-Some c =
    let on = stops c.kind_at.result _ c.is_same_kind.result _ c.is_same_kind.ensures c.kind_at.ensures c.arms-test.true in
    arms_misfit c.args.marks.now c.arms.spans.items c.arms.rest.now c.arms.invariant.so_far c.in-Some.at
    (omega (arith, c.len.ensures, c.if-len-eq-MOST.false, c.arms.invariant.few, c.arms.spans.ok.0)) on (sym c.misfit.ensures ∙ c.in-Some.is)
