use Rattle.std.proofs.Common.{ℕ, List, sym, ap, ◌∙◌, arith}
use Rattle.anb_index.specs.Places.{among}
use Rattle.anb_protocol.specs.Protocols.{ProtocolValue}
use Rattle.anb_choice.specs.Lawful.{roles_in}
use Rattle.anb_choice.specs.Views.{branched_of}
use Rattle.anb_choice.proofs.Names.{all_have, among_itself}
use Rattle.anb_choice.proofs.blindness.blind.Goals as goal

pub blind_in-requires-clause-role : goal.blind_in-requires-clause-role
blind_in-requires-clause-role c =
    all_have (λ (p : ProtocolValue). p.roles) (roles_in (branched_of c.args.b.now)) c.args.b.now.arms.items c.role-item.result
    (ap (λ (l : List (List ℕ)). among l c.role-item.result) (sym c.roles_in-role-items.ensures)
    ∙ among_itself c.roles_in-role-items.result.now c.loop-role.role-index c.role-item.result (omega arith) c.role-item.is) c.requires.roles
