use Rattle.std.proofs.Common.{length, arith, ap}
use Rattle.std.proofs.lemmas.List.{length-map}
use Rattle.anb_protocol.specs.Views.{action_value, value_of}
use Rattle.anb_protocol.proofs.Holding.{facts}
use Rattle.anb_protocol.proofs.protocol.Protocol.actions.Goals as goal

pub overflow_cast-result : goal.overflow_cast-result
overflow_cast-result c =
    let h = facts (value_of c.self.inside.parts) c.self.invariant.0 in
    omega (arith, h.actions, length-map c.self.inside.parts.actions.items action_value, ap length c.as_slice.ensures.value)
