use Rattle.std.proofs.Common.{◌≡◌, take}
use Rattle.std.specs.Prelude.{count_by}
use Rattle.anb_protocol.specs.Views.{action_value}
use Rattle.anb_protocol.specs.declared.parts.Action.{Action}
use Rattle.anb_verdict.specs.Places.{is_own}
use Rattle.anb_probe_commands.proofs.cases.honest_blocked.Given as goal

abbrev pub invariant-loop-i : goal.invariant-loop-i
invariant-loop-i l = l.lines ≡ count_by (λ (a : Action). is_own l.role (action_value a)) (take l.i l.actions)
