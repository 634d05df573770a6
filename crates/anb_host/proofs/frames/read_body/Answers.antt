use Rattle.std.proofs.Common.{arith, take, [], ◌≡◌, ◌<◌, length}
use Rattle.std.proofs.lemmas.List.{length-take-le}
use Rattle.anb_frame.proofs.Takings.{took_front}
use Rattle.anb_base.specs.Moves.{count_written}
use Rattle.anb_host.proofs.Pieces.{took_none, header_long, part_body, begun_body, no_room}
use Rattle.anb_host.proofs.frames.read_body.Goals as goal

pub returns-in_default-clause-reads : goal.returns-in_default-clause-reads
returns-in_default-clause-reads g c = ([], took_none _ _ (count_written (g.S.Source.kept c.args.src.now)), no_room c.args.s c.args.len c.ranges.s.fits c.requires (g.S.Source.left c.args.src.now))

pub returns-in_default-read_full-clause-reads : goal.returns-in_default-read_full-clause-reads
returns-in_default-read_full-clause-reads g c =
    let t = c.in_default-read_full.ensures.failed in
    (t.0, (t.2, t.3), begun_body c.args.s c.args.len t.0 c.ranges.s.fits c.ranges.len.fits (omega (arith, t.1, c.deref_mut.ensures.len, c.in-Ok.ensures.len, c.in-Ok.body.ok.0)))

pub returns-then-have-len-clause-reads : goal.returns-then-have-len-clause-reads
returns-then-have-len-clause-reads g c =
    let n = c.in-Ok-read_full.have in
    let z = take n c.read_full.new.buf in
    let size : length z ≡ n = length-take-le n c.read_full.new.buf c.in-Ok-read_full.ensures.within in
    let short : length z < c.args.len = omega (arith, size, c.if-have-len.true) in (
      z,
      took_front _ _ _ _ _ n c.read_full.new.buf c.in-Ok-read_full.ensures.within c.in-Ok-read_full.ensures.took c.in-Ok-read_full.ensures.stamped,
      (
        c.in-Ok-read_full.ensures.end (omega (arith, c.if-have-len.true, c.read_full.auto.buf, c.deref_mut.ensures.len, c.in-Ok.ensures.len, c.in-Ok.body.ok.0)),
        omega (arith, header_long c.args.s c.args.len z, size),
        rw c.from.ensures (part_body c.args.s c.args.len z c.ranges.s.fits c.ranges.len.fits short),
      ),
    )
