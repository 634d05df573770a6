use Rattle.std.proofs.Common.{◌≡◌, ◌+◌, map, take, drop, length}
use Rattle.std.specs.Prelude.{not}
use Rattle.anb_base.specs.declared.TheConstants.{ARRIVAL, WIDE}
use Rattle.anb_protocol.specs.declared.refusals.ResolveNo.TheVariants.{Wide}
use Rattle.anb_protocol.specs.declared.refusals.Item.TheVariants.{Action}
use Rattle.anb_protocol.specs.Choices.{first_after, refuse_if}
use Rattle.anb_protocol.specs.Protocols.{ActionValue}
use Rattle.anb_protocol.specs.Widths.{fits_width}
use Rattle.anb_protocol.specs.Checks.{wide_message}
use Rattle.anb_protocol.specs.Views.{action_value, value_of}
use Rattle.anb_protocol.proofs.parts.Parts.wide_message.Given as goal

abbrev pub invariant-loop-i : goal.invariant-loop-i
invariant-loop-i l =
    first_after (λ before (a : ActionValue). refuse_if (not (fits_width ARRIVAL l.self.formats.items WIDE a.message)) (Wide (Action (length before + 1)))) (take l.i (map action_value l.self.actions.items)) (drop l.i (map action_value l.self.actions.items)) ≡ wide_message ARRIVAL WIDE (value_of l.self)
