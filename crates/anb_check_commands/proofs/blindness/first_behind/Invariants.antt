use Rattle.std.proofs.Common.{◌≡◌, drop, map}
use Rattle.anb_protocol.specs.Views.{plan_event}
use Rattle.anb_check_commands.specs.ChoiceLines.{first_behind}
use Rattle.anb_check_commands.proofs.blindness.first_behind.Given as goal

abbrev pub invariant-loop-i : goal.invariant-loop-i
invariant-loop-i l = first_behind l.stem (map plan_event (drop l.i l.events)) ≡ first_behind l.stem (map plan_event l.events)
