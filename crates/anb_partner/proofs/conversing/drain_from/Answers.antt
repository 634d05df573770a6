use Rattle.std.proofs.Common.{false, subst, sym}
use Rattle.anb_partner.specs.declared.conversation.TalkEnd.{TalkEnd}
use Rattle.anb_partner.specs.Talks.{Drained}
use Rattle.anb_partner.proofs.Draining.{undrained}
use Rattle.anb_partner.proofs.conversing.drain_from.Goals as goal

pub returns-in-ReadFault : goal.returns-in-ReadFault
returns-in-ReadFault g c =
    let s = g.W.Wire.state c.args.child.now in
    subst (λ (end : TalkEnd). Drained s s end 0 false) (sym c.in-ReadFault.is) (undrained s)
