use Rattle.std.proofs.Common.{arith}
use Rattle.anb_term.proofs.Lists.{one_size}
use Rattle.anb_report.proofs.remarks.+formats.Goals as goal

pub put_all_formats-put_formats-requires : goal.put_all_formats-put_formats-requires
put_all_formats-put_formats-requires t c =
    let one = one_size c.args.terms.now c.loop-term.term-index c.term-item.result (omega arith) c.term-item.is in omega (arith, one, c.decreases)
