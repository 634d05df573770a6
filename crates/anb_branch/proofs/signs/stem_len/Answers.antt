use Rattle.std.proofs.Common.{◌+◌, map, drop, refl, ap, ◌∙◌, arith}
use Rattle.anb_protocol.specs.Views.{plan_event}
use Rattle.anb_branch.proofs.Cutting.{len_from, len_at_first, len_on, len_over_made, next_event}
use Rattle.anb_branch.proofs.signs.stem_len.Goals.{in-None, in-Some-true}
use Rattle.anb_branch.proofs.signs.stem_len.Goals as goal

pub loop-event-init : goal.loop-event-init
loop-event-init c = record { within = omega arith; at = refl; value = len_at_first c.args.stem (map plan_event c.args.events.now) }

pub loop-event-preserved : goal.loop-event-preserved
loop-event-preserved c =
    let i = c.loop-event.event-index in
    let len = c.loop-event.len in
    let stem = c.args.stem in
    let e = plan_event c.event-item.result in
    let rest = map plan_event (drop (i + 1) c.args.events.now) in
    let next = next_event c.args.events.now i c.event-item.result (omega (arith, c.loop-event-test.true, c.loop-event.auto.event-index-end)) c.event-item.is in
    let old = c.loop-event.invariant in
    let so = old.value ∙ ap (len_from stem len i) next in
    elim c.match-is_common.branch [
      | in-None w ↦
          rw w.len-is (record {
            within = omega (arith, old.within);
            at = omega (arith, old.at);
            value = so ∙ len_over_made stem len i e rest (w.in-None.ensures.none rest);
          })
      | in-Some-true w ↦
          rw (w.len-is, old.at) (record {
            within = omega (arith, old.within);
            at = refl;
            value = so ∙ len_on stem len i e rest (w.in-Some-true.ensures.some rest ∙ w.in-Some-true.field-0-test);
          })
    ]
