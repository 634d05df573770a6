use Rattle.std.proofs.Common.{◌≡◌, ◌++◌, drop, map, true}
use Rattle.std.specs.List.{flat_map}
use Rattle.anb_protocol.specs.Views.{plan_event}
use Rattle.anb_notes.specs.Places.{made_if}
use Rattle.anb_notes.proofs.places.made.Given as goal

abbrev pub invariant-loop-event : goal.invariant-loop-event
invariant-loop-event l = l.names.items ++ flat_map (made_if true) (map plan_event (drop l.event-index l.events)) ≡ flat_map (made_if true) (map plan_event l.events)
