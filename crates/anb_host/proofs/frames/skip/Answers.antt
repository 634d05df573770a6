use Rattle.std.proofs.Common.{◌≡◌, ◌++◌, length, take, arith, ◌∙◌, length-append}
use Rattle.std.proofs.lemmas.List.{length-take-le}
use Rattle.anb_frame.proofs.Takings.{TookAt-joined, took_front}
use Rattle.anb_lemmas.proofs.Results.{on_err_any}
use Rattle.anb_base.specs.Moves.{count_written}
use Rattle.anb_host.proofs.Pieces.{took_while}
use Rattle.anb_host.proofs.frames.skip.Goals as goal

pub loop-left-preserved : goal.loop-left-preserved
loop-left-preserved g c =
    let was = c.loop-left.invariant in
    let n = c.in_ok-have.have in
    let buf = c.read_full.new.buf in
    let z = take n buf in
    let size : length z ≡ n = length-take-le n buf c.in_ok-have.ensures.within in
    let room = length-take-le c.min-want.result c.loop-left.piece (omega arith) in
    let more = took_while _ _ _ _ (g.S.Source.kept c.args.src.now) (g.S.Source.kept c.loop-left.src) z was.kept (took_front _ _ _ _ _ n buf c.in_ok-have.ensures.within c.in_ok-have.ensures.took c.in_ok-have.ensures.stamped) in
    record {
      taken = (
        was.taken.0 ++ z,
        TookAt-joined _ _ _ _ _ _ (count_written (g.S.Source.kept c.args.src.now)) was.taken.0 z was.taken.1 more,
        omega (arith, length-append was.taken.0 z, size, was.taken.2, c.in_ok-have.ensures.within, c.read_full.auto.buf, room, c.min-want.ensures),
      );
      quiet = c.in_ok-have.ensures.quiet ∙ was.quiet;
      never_falls = omega (arith, was.never_falls, c.read_full.ensures.never_falls);
      kept = c.read_full.ensures.kept ∙ was.kept;
    }

pub returns-then-have-want-clause-skips : goal.returns-then-have-want-clause-skips
returns-then-have-want-clause-skips g c =
    let was = c.loop-left.invariant in
    let n = c.in_ok-have.have in
    let buf = c.read_full.new.buf in
    let z = take n buf in
    let size : length z ≡ n = length-take-le n buf c.in_ok-have.ensures.within in
    let room = length-take-le c.min-want.result c.loop-left.piece (omega arith) in
    let more = took_while _ _ _ _ (g.S.Source.kept c.args.src.now) (g.S.Source.kept c.loop-left.src) z was.kept (took_front _ _ _ _ _ n buf c.in_ok-have.ensures.within c.in_ok-have.ensures.took c.in_ok-have.ensures.stamped) in (
      was.taken.0 ++ z,
      TookAt-joined _ _ _ _ _ _ (count_written (g.S.Source.kept c.args.src.now)) was.taken.0 z was.taken.1 more,
      omega (arith, length-append was.taken.0 z, size, was.taken.2, c.in_ok-have.ensures.within, c.read_full.auto.buf, room, c.min-want.ensures),
      omega arith,
      λ short. c.in_ok-have.ensures.end (omega (arith, c.if-have-want.true, c.read_full.auto.buf, room)),
    )

pub returns-then-have-want-clause-quiet : goal.returns-then-have-want-clause-quiet
returns-then-have-want-clause-quiet g c = c.in_ok-have.ensures.quiet ∙ c.loop-left.invariant.quiet

pub returns-clause-quiet : goal.returns-clause-quiet
returns-clause-quiet g c = c.loop-left.invariant.quiet

pub returns-in_err-have-clause-failed : goal.returns-in_err-have-clause-failed
returns-in_err-have-clause-failed g c =
    let was = c.loop-left.invariant in
    let t = c.in_err-have.ensures.failed in
    let room = length-take-le c.min-want.result c.loop-left.piece (omega arith) in
    let more = TookAt-joined _ _ _ _ _ _ (count_written (g.S.Source.kept c.args.src.now)) was.taken.0 t.0 was.taken.1 (took_while _ _ _ _ (g.S.Source.kept c.args.src.now) (g.S.Source.kept c.loop-left.src) t.0 was.kept (t.2, t.3)) in
    on_err_any c.from_residual.result (was.taken.0 ++ t.0, omega (arith, length-append was.taken.0 t.0, was.taken.2, t.1, room, c.min-want.ensures), more.0, more.1)
