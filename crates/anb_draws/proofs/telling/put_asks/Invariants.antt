use Rattle.std.proofs.Common.{◌≡◌, ◌++◌, map, drop}
use Rattle.anb_protocol.specs.Views.{plan_event}
use Rattle.anb_draws.specs.Telling.{asks}
use Rattle.anb_draws.proofs.telling.put_asks.Given as goal

abbrev pub invariant-loop-name : goal.invariant-loop-name
invariant-loop-name l = map plan_event l.events.items ++ map asks (drop l.name-index l.names) ≡ map plan_event l.initial.events.items ++ map asks l.names
