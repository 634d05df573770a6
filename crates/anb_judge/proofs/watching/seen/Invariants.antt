use Rattle.std.proofs.Common.{◌≡◌, ◌++◌, map}
use Rattle.anb_protocol.specs.Views.{plan_event}
use Rattle.anb_judge.specs.Observers.{seen}
use Rattle.anb_judge.proofs.watching.seen.Given as goal

abbrev pub invariant-loop-event : goal.invariant-loop-event
invariant-loop-event l = map plan_event l.events.items ++ seen (map plan_event l.event-iterator.rest.items) ≡ seen l.fn.plan
