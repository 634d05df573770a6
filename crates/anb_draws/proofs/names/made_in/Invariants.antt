use Rattle.std.proofs.Common.{◌≡◌, ◌++◌, map, drop}
use Rattle.anb_protocol.specs.Plays.{event_of}
use Rattle.anb_protocol.specs.Views.{plan_event}
use Rattle.anb_draws.specs.Draws.{names_made}
use Rattle.anb_draws.proofs.names.made_in.Given as goal

abbrev pub invariant-loop-event : goal.invariant-loop-event
invariant-loop-event l = l.names.items ++ names_made (map event_of (map plan_event (drop l.event-index l.events))) ≡ names_made (map event_of (map plan_event l.events))
