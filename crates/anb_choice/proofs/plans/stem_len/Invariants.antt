use Rattle.std.proofs.Common.{◌≡◌, ◌+◌, drop, map}
use Rattle.anb_protocol.specs.Views.{plan_event}
use Rattle.anb_choice.specs.Lawful.{stem_len}
use Rattle.anb_choice.proofs.plans.stem_len.Given as goal

abbrev pub invariant-loop-i : goal.invariant-loop-i
invariant-loop-i l = l.i + stem_len l.stem (drop l.i (map plan_event l.events)) ≡ stem_len l.stem (map plan_event l.events)
