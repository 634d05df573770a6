use Rattle.std.proofs.Common.{◌≡◌, ◌++◌, map, drop}
use Rattle.std.specs.Prelude.{filter}
use Rattle.anb_term.specs.View.{tree_of}
use Rattle.anb_protocol.specs.Plans.{messages}
use Rattle.anb_protocol.specs.Views.{action_value}
use Rattle.anb_pattern.specs.Taken.{is_received}
use Rattle.anb_pattern.proofs.taken.put_received.Given as goal

abbrev pub invariant-loop-action : goal.invariant-loop-action
invariant-loop-action l =
    map tree_of l.out.items ++ messages (filter (is_received l.role) (map action_value (drop l.action-index l.actions)))
    ≡ map tree_of l.initial.out.items ++ messages (filter (is_received l.role) (map action_value l.actions))
