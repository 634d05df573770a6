use Rattle.std.proofs.Common.{arith}
use Rattle.anb_term.proofs.Lists.{one_size}
use Rattle.anb_probe_commands.proofs.frames.+show.Goals as goal

pub put_operands-put_term-requires : goal.put_operands-put_term-requires
put_operands-put_term-requires t c =
    let here = one_size c.args.operands.now c.loop-t.t-index c.t-item.result (omega arith) c.t-item.is in omega (arith, here, c.decreases)
