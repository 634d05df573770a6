use Rattle.std.proofs.Common.{arith}
use Rattle.anb_term.proofs.Lists.{one_size}
use Rattle.anb_notes.proofs.standing.+inside.Goals as goal

pub put_inside_from-put_inside_if-requires : goal.put_inside_from-put_inside_if-requires
put_inside_from-put_inside_if-requires t c =
    let one = one_size c.args.terms.now c.loop-i.i c.index-terms-i.result (omega arith) c.index-terms-i.is in omega (arith, one, c.decreases)
