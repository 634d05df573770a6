use Rattle.std.proofs.Common.{◌≡◌, ◌++◌, map, drop}
use Rattle.anb_protocol.specs.Plays.{event_of}
use Rattle.anb_protocol.specs.Views.{plan_event}
use Rattle.anb_judge.specs.Verdicts.{sides}
use Rattle.anb_judge.proofs.judging.sides.Given as goal

abbrev pub invariant-loop-event : goal.invariant-loop-event
invariant-loop-event l = l.said.items ++ sides (map event_of (map plan_event (drop l.event-index l.events))) ≡ sides (map event_of (map plan_event l.events))
