use Rattle.std.proofs.Common.{arith}
use Rattle.anb_term.proofs.Lists.{one_size}
use Rattle.anb_partner.proofs.standing.+left.Goals as goal

pub left_of_all-left_of-requires : goal.left_of_all-left_of-requires
left_of_all-left_of-requires t c =
    let one = one_size c.args.terms.now c.loop-t.t-index c.t-item.result (omega arith) c.t-item.is in omega (arith, one, c.decreases)
