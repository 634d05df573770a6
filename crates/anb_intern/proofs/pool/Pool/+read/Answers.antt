use Rattle.std.proofs.Common.{◌+◌, ◌<◌, ◌*◌, length, arith}
use Rattle.anb_intern.proofs.Putting.{under_at}
use Rattle.anb_intern.proofs.pool.Pool.+read.Goals as goal

pub terms-term-requires : goal.terms-term-requires
terms-term-requires t c =
    let h = under_at c.args.end.0 c.args.ids.now c.loop-id.id-index (record { 0 = 0 }) c.requires.under (omega arith) in
    (omega (arith, h, c.decreases), omega (arith, h, c.requires.within))
