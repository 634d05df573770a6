use Rattle.std.proofs.Common.{arith, ◌<◌, length}
use Rattle.anb_host.proofs.Pieces.{header_long, part_body, begun_body}
use Rattle.anb_host.proofs.frames.read_oversize.Goals as goal

pub returns-in_default-clause-reads : goal.returns-in_default-clause-reads
returns-in_default-clause-reads g c =
    let t = c.in_default.ensures.failed in (t.0, (t.2, t.3), begun_body c.args.s c.args.len t.0 c.ranges.s.fits c.ranges.len.fits t.1)

pub returns-then-have-len-clause-reads : goal.returns-then-have-len-clause-reads
returns-then-have-len-clause-reads g c =
    let t = c.in-Ok.ensures.skips in
    let short : length t.0 < c.args.len = omega (arith, t.2, c.if-have-len.true) in (
      t.0,
      t.1,
      (
        t.4 c.if-have-len.true,
        omega (arith, header_long c.args.s c.args.len t.0, t.2, c.from.ensures),
        rw c.from-then-have-len.ensures (part_body c.args.s c.args.len t.0 c.ranges.s.fits c.ranges.len.fits short),
      ),
    )
