use Rattle.std.proofs.Common.{◌≡◌, [], map, take, drop}
use Rattle.anb_protocol.specs.Choices.{each_after}
use Rattle.anb_protocol.specs.Plans.{made_at}
use Rattle.anb_protocol.specs.Seen.{AreSeen}
use Rattle.anb_protocol.specs.Views.{action_value, value_of}
use Rattle.anb_protocol.proofs.parts.Parts.makes_names.Given as goal

abbrev pub invariant-loop-action : goal.invariant-loop-action
invariant-loop-action l = record {
  seen : AreSeen (value_of l.self) (take l.action-index (map action_value l.self.actions.items)) l.seen.items;
  none : each_after (made_at (value_of l.self)) [] (map action_value l.self.actions.items) ≡ each_after (made_at (value_of l.self)) (take l.action-index (map action_value l.self.actions.items)) (drop l.action-index (map action_value l.self.actions.items));
}
