use Rattle.std.proofs.Common.{◌≡◌, ◌+◌, map, take, drop, length}
use Rattle.std.specs.Prelude.{◌==◌}
use Rattle.anb_protocol.specs.Choices.{first_after, refuse_if}
use Rattle.anb_protocol.specs.Protocols.{ActionValue}
use Rattle.anb_protocol.specs.Checks.{self_send}
use Rattle.anb_protocol.specs.declared.refusals.ResolveNo.TheVariants.{SelfSend}
use Rattle.anb_protocol.specs.Views.{action_value, value_of}
use Rattle.anb_protocol.proofs.parts.Parts.self_send.Given as goal

abbrev pub invariant-loop-i : goal.invariant-loop-i
invariant-loop-i l = first_after (λ before (a : ActionValue). refuse_if (a.from == a.to) (SelfSend (length before + 1))) (take l.i (map action_value l.self.actions.items)) (drop l.i (map action_value l.self.actions.items)) ≡ self_send (value_of l.self)
