use Rattle.std.proofs.Common.{◌∙◌, arith, ap}
use Rattle.std.specs.List.{position_from}
use Rattle.std.specs.Str.{bytes_eq}
use Rattle.anb_protocol.specs.Protocols.{ProtocolValue}
use Rattle.anb_protocol.specs.Views.{value_of}
use Rattle.anb_protocol.proofs.Holding.{facts}
use Rattle.anb_protocol.proofs.PlaceLemmas.{name_placed, name_absent}
use Rattle.anb_protocol.proofs.protocol.Protocol.role_of.Goals as goal

pub role_of-requires : goal.role_of-requires
role_of-requires c =
    let h = facts (value_of c.self.inside.parts) c.self.invariant.0 in
    omega (arith, h.roles)

pub returns-clause-value : goal.returns-clause-value
returns-clause-value c = c.role_of.ensures ∙ ap (λ (q : ProtocolValue). position_from (λ y. bytes_eq y c.args.name.now) 0 q.roles) c.self.view_is

pub returns-clause-some : goal.returns-clause-some
returns-clause-some c = name_placed c.args.self.now.roles c.args.name.now c.role_of.result (c.role_of.ensures ∙ ap (λ (q : ProtocolValue). position_from (λ y. bytes_eq y c.args.name.now) 0 q.roles) c.self.view_is)

pub returns-clause-none : goal.returns-clause-none
returns-clause-none c = name_absent c.args.self.now.roles c.args.name.now c.role_of.result (c.role_of.ensures ∙ ap (λ (q : ProtocolValue). position_from (λ y. bytes_eq y c.args.name.now) 0 q.roles) c.self.view_is)
