use Rattle.std.proofs.Common.{◌≡◌, ◌++◌, map, drop}
use Rattle.anb_protocol.specs.Plays.{event_of}
use Rattle.anb_protocol.specs.Views.{plan_event}
use Rattle.anb_draws.specs.Draws.{names_before}
use Rattle.anb_draws.proofs.names.names_before.Given as goal

abbrev pub invariant-loop-event : goal.invariant-loop-event
invariant-loop-event l = l.names.items ++ names_before l.left (map event_of (map plan_event (drop l.event-index l.events))) ≡ names_before l.n (map event_of (map plan_event l.events))
