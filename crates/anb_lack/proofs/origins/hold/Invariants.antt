use Rattle.std.proofs.Common.{map}
use Rattle.anb_protocol.specs.Views.{plan_event}
use Rattle.anb_lack.specs.Held.{IsHeld}
use Rattle.anb_lack.proofs.origins.hold.Given as goal

abbrev pub invariant-loop-event : goal.invariant-loop-event
invariant-loop-event l = IsHeld (map plan_event l.events) l.event-index l.held.closure l.held.from.items
