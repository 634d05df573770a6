use Rattle.std.proofs.Common.{arith}
use Rattle.anb_term.proofs.Lists.{one_size}
use Rattle.anb_notes.proofs.standing.+clear.Goals as goal

pub put_in_clear_each-put_in_clear-requires : goal.put_in_clear_each-put_in_clear-requires
put_in_clear_each-put_in_clear-requires t c =
    let one = one_size c.args.terms.now c.loop-t.t-index c.t-item.result (omega arith) c.t-item.is in omega (arith, one, c.decreases)
