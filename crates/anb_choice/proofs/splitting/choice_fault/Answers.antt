use Rattle.std.proofs.Common.{◌+◌, [], List, length, sym, ◌∙◌}
use Rattle.anb_protocol.specs.Protocols.{ProtocolValue}
use Rattle.anb_choice.specs.Lawful.{are_same_names, roles_in}
use Rattle.anb_choice.specs.Views.{branched_of}
use Rattle.anb_choice.proofs.Names.{none_refused}
use Rattle.anb_choice.proofs.splitting.choice_fault.Goals as goal

pub blind-requires-clause-roles : goal.blind-requires-clause-roles
blind-requires-clause-roles c =
    none_refused (λ (p : ProtocolValue). are_same_names (roles_in (branched_of c.args.b.now)) p.roles) (λ (us : List ProtocolValue). length us + 1) [] c.args.b.now.arms.items
    (sym c.other_roles.ensures ∙ c.in_default.is)
