use Rattle.std.proofs.Common.{arith}
use Rattle.anb_term.proofs.Lists.{one_size}
use Rattle.anb_protocol.proofs.seen.+atoms.Goals as goal

pub put_all_atoms-put_atoms-requires : goal.put_all_atoms-put_atoms-requires
put_all_atoms-put_atoms-requires t c =
    let one = one_size c.args.terms.now c.loop-t.t-index c.t-item.result (omega arith) c.t-item.is in omega (arith, one, c.decreases)
