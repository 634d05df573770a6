use Rattle.std.proofs.Common.{◌≡◌, ◌≤◌, ◌+◌, ◌++◌, map, drop}
use Rattle.std.specs.Option.{option_map}
use Rattle.anb_term.specs.View.{tree_of}
use Rattle.anb_protocol.specs.Views.{plan_event}
use Rattle.anb_partner.specs.Plans.{mirrored, term_at}
use Rattle.anb_partner.proofs.planning.put_mirrored.Given as goal

abbrev pub invariant-loop-event : goal.invariant-loop-event
invariant-loop-event l = record {
  placed : map plan_event l.out.items ++ mirrored l.spare (option_map term_at l.right) l.line (map plan_event (drop l.event-index l.own)) (map tree_of (drop l.heard l.arrivals)) (map tree_of (drop l.said l.messages))
      ≡ map plan_event l.initial.out.items ++ mirrored l.spare (option_map term_at l.fn.right) 1 (map plan_event l.own) (map tree_of l.arrivals) (map tree_of l.messages);
  line : l.line ≤ l.event-index + 1;
  heard : l.heard ≤ l.event-index;
  said : l.said ≤ l.event-index;
}
