use Rattle.std.proofs.Common.{arith}
use Rattle.std.proofs.lemmas.List.{length-map}
use Rattle.anb_protocol.specs.Views.{action_value, value_of}
use Rattle.anb_protocol.proofs.Holding.{facts}
use Rattle.anb_protocol.proofs.protocol.Protocol.plan.Goals as goal

pub plan-requires : goal.plan-requires
plan-requires c =
    let h = facts (value_of c.self.inside.parts) c.self.invariant.0 in
    omega (arith, h.actions, length-map c.self.inside.parts.actions.items action_value)
