use Rattle.std.proofs.Common.{sym, subst, arith}
use Rattle.anb_term.proofs.Lists.{slice_get-at}
use Rattle.anb_close.specs.Entries as entries
use Rattle.anb_protocol.specs.Views.{plan_event}
use Rattle.anb_reason.specs.Stuck.{IsStuck}
use Rattle.anb_reason.proofs.Refusing.{at_formed, at_term, at_label, at_few, at_next, none_next}
use Rattle.anb_reason.proofs.reasons.refusal_in_plan.Goals as goal

pub is_unsent-requires-clause-labels : goal.is_unsent-requires-clause-labels
is_unsent-requires-clause-labels c = at_formed c.args.p.now c.args.role c.events-events.result.now c.loop-i.i (entries.labels_of c.loop-i.closure) c.requires.holds c.loop-i.invariant.at

pub is_unsent-requires-clause-term : goal.is_unsent-requires-clause-term
is_unsent-requires-clause-term c =
    at_term c.args.p.now c.args.role c.events-events.result.now c.loop-i.i (entries.labels_of c.loop-i.closure) c.requires.holds c.loop-i.invariant.at
    c.index-events-i.result (omega (arith, c.loop-i-test.true)) c.index-events-i.is c.requires.terms

pub refused-requires-clause-stuck : goal.refused-requires-clause-stuck
refused-requires-clause-stuck c =
    let x = c.index-events-i.result in
    let stuck = c.in_ok-is_unsent.ensures.0 c.if-branch.true in
    (x, slice_get-at c.events-events.result.now c.loop-i.i x (omega (arith, c.loop-i-test.true)) c.index-events-i.is, stuck)

pub learn-requires-clause-formed : goal.learn-requires-clause-formed
learn-requires-clause-formed c =
    at_label c.args.p.now c.args.role c.events-events.result.now c.loop-i.i (entries.labels_of c.loop-i.closure) c.requires.holds c.loop-i.invariant.at
    c.index-events-i-in-loop-i.result (omega (arith, c.loop-i-test.true)) c.index-events-i-in-loop-i.is

pub learn-requires-clause-few : goal.learn-requires-clause-few
learn-requires-clause-few c =
    at_few c.args.p.now c.args.role c.events-events.result.now c.loop-i.i (entries.labels_of c.loop-i.closure) c.requires.holds c.loop-i.invariant.at
    c.index-events-i-in-loop-i.result (omega (arith, c.loop-i-test.true)) c.index-events-i-in-loop-i.is

pub loop-i-preserved : goal.loop-i-preserved
loop-i-preserved c =
    let events = c.events-events.result.now in
    let i = c.loop-i.i in
    let frame = entries.labels_of c.loop-i.closure in
    let v = c.loop-i.invariant in
    let x = c.index-events-i.result in
    record {
      at = at_next c.args.p.now c.args.role events i frame c.requires.holds v.at c.index-events-i-in-loop-i.result (omega (arith, c.loop-i-test.true)) c.index-events-i-in-loop-i.is (entries.labels_of c.learn.new.closure) c.in_ok-learn.ensures;
      none = none_next c.args.p.now c.args.action events i x (omega (arith, c.loop-i-test.true)) c.index-events-i.is v.none
          (λ s. let f = c.if-branch.false in let g = c.in_ok-is_unsent.ensures.1 (subst (λ l. IsStuck c.args.p.now l c.args.action (plan_event x)) (sym v.at.labels) s) in cc);
    }
