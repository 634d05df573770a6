use Rattle.std.proofs.Common.{◌≡◌, ℕ, map, take}
use Rattle.std.specs.Prelude.{filter_map}
use Rattle.anb_protocol.specs.Views.{plan_event}
use Rattle.anb_honest.specs.Inside.{part_of, turn_value}
use Rattle.anb_honest.proofs.beginning.parts_of.Given as goal

abbrev pub invariant-loop-event : goal.invariant-loop-event
invariant-loop-event l = (role : ℕ) → map (turn_value role) l.parts.items ≡ filter_map (part_of role) (map plan_event (take l.event-index l.event-items))
