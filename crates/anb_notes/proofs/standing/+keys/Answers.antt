use Rattle.std.proofs.Common.{arith}
use Rattle.anb_term.proofs.Lists.{one_size}
use Rattle.anb_notes.proofs.standing.+keys.Goals as goal

pub put_as_key_each-put_as_key-requires : goal.put_as_key_each-put_as_key-requires
put_as_key_each-put_as_key-requires t c =
    let one = one_size c.args.terms.now c.loop-t.t-index c.t-item.result (omega arith) c.t-item.is in omega (arith, one, c.decreases)
