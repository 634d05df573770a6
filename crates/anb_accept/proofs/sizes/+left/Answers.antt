use Rattle.std.proofs.Common.{arith}
use Rattle.anb_term.proofs.Lists.{one_size}
use Rattle.anb_accept.proofs.sizes.+left.Goals as goal

pub left_after_all-left_after-requires : goal.left_after_all-left_after-requires
left_after_all-left_after-requires t c =
    let one = one_size c.args.terms.now c.loop-t.t-index c.t-item.result (omega arith) c.t-item.is in omega (arith, one, c.decreases)
