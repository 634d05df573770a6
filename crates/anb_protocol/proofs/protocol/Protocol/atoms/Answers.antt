use Rattle.anb_protocol.specs.Texts.{IsTermOf, known_terms}
use Rattle.anb_lemmas.proofs.Each.{each_in_parts}
use Rattle.anb_protocol.specs.Plans.{messages}
use Rattle.anb_protocol.specs.Views.{value_of}
use Rattle.anb_protocol.proofs.Holding.{facts}
use Rattle.anb_protocol.proofs.protocol.Protocol.atoms.Goals as goal

pub known_names-requires : goal.known_names-requires
known_names-requires c =
    let p = value_of c.self.inside.parts in
    (each_in_parts (IsTermOf p) (known_terms p) (messages p.actions) (facts p c.self.invariant.0).terms).0
