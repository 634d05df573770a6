use Rattle.std.proofs.Common.{◌≡◌, ◌+◌, ◌≤◌, length, map, drop}
use Rattle.anb_protocol.specs.Views.{plan_event}
use Rattle.anb_certify.specs.Certified.{stray}
use Rattle.anb_certify.proofs.frames.stray.Given as goal

abbrev pub invariant-loop-i : goal.invariant-loop-i
invariant-loop-i l = record {
  within : l.next ≤ length l.events;
  same : stray l.p l.instrs (map plan_event l.events) 1 ≡ stray l.p (drop l.i l.instrs) (drop l.next (map plan_event l.events)) (l.i + 1);
}
