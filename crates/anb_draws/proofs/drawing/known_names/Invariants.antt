use Rattle.std.proofs.Common.{◌≡◌, ◌++◌, map, drop}
use Rattle.anb_compile.specs.Emitting.{known_in}
use Rattle.anb_protocol.specs.Views.{plan_event}
use Rattle.anb_draws.specs.Telling.{named}
use Rattle.anb_draws.proofs.drawing.known_names.Given as goal

abbrev pub invariant-loop-event : goal.invariant-loop-event
invariant-loop-event l = l.draws.items ++ named (known_in (map plan_event (drop l.event-index l.events))) (drop l.i l.values) ≡ named (known_in (map plan_event l.events)) l.values
