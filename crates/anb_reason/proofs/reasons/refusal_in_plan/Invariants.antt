use Rattle.std.proofs.Common.{map, take}
use Rattle.anb_close.specs.Entries as entries
use Rattle.anb_protocol.specs.Views.{plan_event}
use Rattle.anb_reason.proofs.Refusing.{At, NoneStuck}
use Rattle.anb_reason.proofs.reasons.refusal_in_plan.Given as goal

abbrev pub invariant-loop-i : goal.invariant-loop-i
invariant-loop-i l = record {
  at : At l.p l.role l.events l.i (entries.labels_of l.closure);
  none : NoneStuck l.p l.action (map plan_event (take l.i l.events));
}
