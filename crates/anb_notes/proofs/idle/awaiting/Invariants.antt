use Rattle.std.proofs.Common.{◌≡◌, ◌-◌, drop, map}
use Rattle.std.specs.Prelude.{reverse}
use Rattle.std.specs.List.{list_any}
use Rattle.anb_protocol.specs.Views.{plan_event}
use Rattle.anb_notes.specs.Idle.{awaiting, receives}
use Rattle.anb_notes.proofs.idle.awaiting.Given as goal

abbrev pub invariant-loop-k : goal.invariant-loop-k
invariant-loop-k l = record {
  later : l.later ≡ list_any receives (map plan_event (drop (l.many - l.k) l.events));
  names : reverse l.names.items ≡ awaiting (map plan_event (drop (l.many - l.k) l.events));
}
