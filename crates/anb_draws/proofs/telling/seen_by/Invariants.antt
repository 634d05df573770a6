use Rattle.std.proofs.Common.{◌≡◌, ◌++◌, map}
use Rattle.anb_protocol.specs.Views.{plan_event}
use Rattle.anb_draws.specs.Telling.{seen_by}
use Rattle.anb_draws.proofs.telling.seen_by.Given as goal

abbrev pub invariant-loop-event : goal.invariant-loop-event
invariant-loop-event l = map plan_event l.events.items ++ seen_by l.left (map plan_event l.event-iterator.rest.items) ≡ seen_by l.fn.n l.fn.plan
