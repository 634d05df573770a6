use Rattle.std.proofs.Common.{arith}
use Rattle.anb_term.proofs.Lists.{one_size}
use Rattle.anb_partner.proofs.planning.+has.Goals as goal

pub have_atom-has_atom-requires : goal.have_atom-has_atom-requires
have_atom-has_atom-requires t c =
    let one = one_size c.args.terms.now c.loop-t.t-index c.t-item.result (omega arith) c.t-item.is in omega (arith, one, c.decreases)
