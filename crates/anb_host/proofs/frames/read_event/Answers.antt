use Rattle.std.proofs.Common.{arith, ◌≡◌, ◌∷◌, [], take, subst}
use Rattle.anb_base.specs.Moves.{count_written}
use Rattle.anb_frame.specs.Answers.{TookAt}
use Rattle.anb_frame.proofs.Takings.{took_front}
use Rattle.anb_host.proofs.Pieces.{further, reads_while, one_byte}
use Rattle.anb_host.proofs.frames.read_event.Goals as goal

pub returns-in-0-clause-reads : goal.returns-in-0-clause-reads
returns-in-0-clause-reads g c =
    let n = c.in-Ok.have in
    let buf = c.read_full.new.buf in
    let whole : take n buf ≡ 0 ∷ [] = one_byte n 0 buf (omega (arith, c.read_full.auto.buf)) (omega (arith, c.if-have-eq0.false)) c.in-0.is in
    let took =
    subst (λ z. TookAt (g.S.Source.left c.args.src.now) (g.S.Source.left c.read_full.new.src) (g.S.Source.taken_at c.args.src.now) (g.S.Source.taken_at c.read_full.new.src) (count_written (g.S.Source.kept c.args.src.now)) z) whole
    (took_front _ _ _ _ _ n buf c.in-Ok.ensures.within c.in-Ok.ensures.took c.in-Ok.ensures.stamped) in
    further _ _ _ _ _ _ (count_written (g.S.Source.kept c.args.src.now)) [] (0 ∷ []) c.read_start.result took
    (reads_while _ _ _ _ (g.S.Source.kept c.args.src.now) (g.S.Source.kept c.read_full.new.src) (0 ∷ []) c.read_start.result c.in-Ok.ensures.kept c.read_start.ensures.reads)

pub returns-in-1-clause-reads : goal.returns-in-1-clause-reads
returns-in-1-clause-reads g c =
    let n = c.in-Ok.have in
    let buf = c.read_full.new.buf in
    let whole : take n buf ≡ 1 ∷ [] = one_byte n 1 buf (omega (arith, c.read_full.auto.buf)) (omega (arith, c.if-have-eq0.false)) c.in-1.is in
    let took =
    subst (λ z. TookAt (g.S.Source.left c.args.src.now) (g.S.Source.left c.read_full.new.src) (g.S.Source.taken_at c.args.src.now) (g.S.Source.taken_at c.read_full.new.src) (count_written (g.S.Source.kept c.args.src.now)) z) whole
    (took_front _ _ _ _ _ n buf c.in-Ok.ensures.within c.in-Ok.ensures.took c.in-Ok.ensures.stamped) in
    further _ _ _ _ _ _ (count_written (g.S.Source.kept c.args.src.now)) [] (1 ∷ []) c.read_arrival.result took
    (reads_while _ _ _ _ (g.S.Source.kept c.args.src.now) (g.S.Source.kept c.read_full.new.src) (1 ∷ []) c.read_arrival.result c.in-Ok.ensures.kept c.read_arrival.ensures.reads)
