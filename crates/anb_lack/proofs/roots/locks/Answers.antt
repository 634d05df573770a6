use Rattle.std.proofs.Common.{length, map, arith, ap}
use Rattle.std.proofs.lemmas.List.{length-map}
use Rattle.anb_term.proofs.Lists.{slice_get-at, slice_get-map}
use Rattle.anb_intern.specs.declared.node.NodeId.{NodeId}
use Rattle.anb_intern.proofs.Nodes.{operands_long}
use Rattle.anb_intern.proofs.Putting.{under_at}
use Rattle.anb_protocol.specs.Plans.{term_in}
use Rattle.anb_protocol.specs.Views.{plan_event}
use Rattle.anb_lack.proofs.ComingOut.{operand_is}
use Rattle.anb_lack.proofs.roots.locks.Goals as goal

pub bounds-labels-i : goal.bounds-labels-i
bounds-labels-i c =
    let events = c.args.events.now in
    omega (arith, operands_long c.args.pool.now c.args.labels.now, ap length c.requires.labels, length-map (map plan_event events) term_in, length-map events plan_event)

pub put_locks_at-requires-clause-within : goal.put_locks_at-requires-clause-within
put_locks_at-requires-clause-within c =
    let d : NodeId = record { 0 = 0 } in
    let events = c.args.events.now in
    under_at (length c.args.pool.now) c.args.labels.now c.loop-i.i d c.requires.under
    (omega (arith, operands_long c.args.pool.now c.args.labels.now, ap length c.requires.labels, length-map (map plan_event events) term_in, length-map events plan_event))

pub put_locks_at-requires-clause-label : goal.put_locks_at-requires-clause-label
put_locks_at-requires-clause-label c =
    let events = c.args.events.now in
    let i = c.loop-i.i in
    let x = c.index-events-i.result in
    let here = slice_get-map term_in (map plan_event events) i (plan_event x) (slice_get-map plan_event events i x (slice_get-at events i x (omega arith) c.index-events-i.is)) in
    operand_is c.args.pool.now c.args.labels.now i _ (term_in (plan_event x)) c.requires.under
    (omega (arith, operands_long c.args.pool.now c.args.labels.now, ap length c.requires.labels, length-map (map plan_event events) term_in, length-map events plan_event)) (rw c.requires.labels here)
