use Rattle.std.proofs.Common.{◌≡◌, ◌++◌, [], map, take, drop}
use Rattle.anb_protocol.specs.Choices.{each_after}
use Rattle.anb_protocol.specs.Plans.{events_at, to_know}
use Rattle.anb_protocol.specs.Texts.{known_by}
use Rattle.anb_protocol.specs.Seen.{AreSeen}
use Rattle.anb_protocol.specs.Views.{action_value, plan_event, value_of}
use Rattle.anb_protocol.proofs.parts.Parts.plan.Given as goal

abbrev pub invariant-loop-i : goal.invariant-loop-i
invariant-loop-i l = record {
  seen : AreSeen (value_of l.self) (take l.i (map action_value l.self.actions.items)) l.seen.items;
  events : map plan_event l.events.items ++ each_after (events_at (value_of l.self) l.role) (take l.i (map action_value l.self.actions.items)) (drop l.i (map action_value l.self.actions.items))
      ≡ map to_know (known_by (value_of l.self) l.role) ++ each_after (events_at (value_of l.self) l.role) [] (map action_value l.self.actions.items);
}
