use Rattle.std.proofs.Common.{◌≡◌, ◌≤◌, map, drop}
use Rattle.anb_protocol.specs.Views.{plan_event}
use Rattle.anb_choice.specs.Lawful.{stem_len}
use Rattle.anb_branch.proofs.Cutting.{len_from}
use Rattle.anb_branch.proofs.signs.stem_len.Given as goal

abbrev pub invariant-loop-event : goal.invariant-loop-event
invariant-loop-event l = record {
  within : l.len ≤ l.event-index;
  at : l.at ≡ l.event-index;
  value : stem_len l.stem (map plan_event l.events) ≡ len_from l.stem l.len l.event-index (map plan_event (drop l.event-index l.events));
}
