use Rattle.std.proofs.Common.{inl, inr, refl, arith, ◌≡◌, ◌++◌, ◌∷◌, [], ◌∙◌, sym, take, subst}
use Rattle.std.proofs.lemmas.List.{take_all}
use Rattle.anb_base.specs.Moves.{count_written}
use Rattle.anb_frame.specs.Answers.{TookAt}
use Rattle.anb_frame.proofs.Takings.{took_front}
use Rattle.anb_host.specs.HostFrames.{number}
use Rattle.anb_host.proofs.Pieces.{further, reads_while}
use Rattle.anb_host.proofs.frames.read_arrival.Goals as goal

pub returns-in_default-clause-reads : goal.returns-in_default-clause-reads
returns-in_default-clause-reads g c = let t = c.in_default.ensures.failed in (t.0, (t.2, t.3), inr (9, inr (inl (t.0, refl, t.1, refl))))

pub returns-then-len-gt-ARRIVAL-clause-reads : goal.returns-then-len-gt-ARRIVAL-clause-reads
returns-then-len-gt-ARRIVAL-clause-reads g c =
    let n = c.in-Ok.have in
    let buf = c.read_full.new.buf in
    let head = number c.read_numbers-s.result.0 ++ number c.read_numbers-s.result.1 in
    let whole : take n buf ≡ head = take_all n buf (omega (arith, c.if-have-lt8.false, c.read_full.auto.buf)) ∙ sym c.read_numbers-s.ensures in
    let took : TookAt (g.S.Source.left c.args.src.now) (g.S.Source.left c.read_full.new.src) (g.S.Source.taken_at c.args.src.now) (g.S.Source.taken_at c.read_full.new.src) (count_written (g.S.Source.kept c.args.src.now)) head =
    subst (λ z. TookAt (g.S.Source.left c.args.src.now) (g.S.Source.left c.read_full.new.src) (g.S.Source.taken_at c.args.src.now) (g.S.Source.taken_at c.read_full.new.src) (count_written (g.S.Source.kept c.args.src.now)) z) whole
    (took_front _ _ _ _ _ n buf c.in-Ok.ensures.within c.in-Ok.ensures.took c.in-Ok.ensures.stamped) in
    further _ _ _ _ _ _ (count_written (g.S.Source.kept c.args.src.now)) (1 ∷ []) head c.read_oversize.result took
    (reads_while _ _ _ _ (g.S.Source.kept c.args.src.now) (g.S.Source.kept c.read_full.new.src) (1 ∷ head) c.read_oversize.result c.in-Ok.ensures.kept c.read_oversize.ensures.reads)

pub returns-else-len-gt-ARRIVAL-clause-reads : goal.returns-else-len-gt-ARRIVAL-clause-reads
returns-else-len-gt-ARRIVAL-clause-reads g c =
    let n = c.in-Ok.have in
    let buf = c.read_full.new.buf in
    let head = number c.read_numbers-s.result.0 ++ number c.read_numbers-s.result.1 in
    let whole : take n buf ≡ head = take_all n buf (omega (arith, c.if-have-lt8.false, c.read_full.auto.buf)) ∙ sym c.read_numbers-s.ensures in
    let took : TookAt (g.S.Source.left c.args.src.now) (g.S.Source.left c.read_full.new.src) (g.S.Source.taken_at c.args.src.now) (g.S.Source.taken_at c.read_full.new.src) (count_written (g.S.Source.kept c.args.src.now)) head =
    subst (λ z. TookAt (g.S.Source.left c.args.src.now) (g.S.Source.left c.read_full.new.src) (g.S.Source.taken_at c.args.src.now) (g.S.Source.taken_at c.read_full.new.src) (count_written (g.S.Source.kept c.args.src.now)) z) whole
    (took_front _ _ _ _ _ n buf c.in-Ok.ensures.within c.in-Ok.ensures.took c.in-Ok.ensures.stamped) in
    further _ _ _ _ _ _ (count_written (g.S.Source.kept c.args.src.now)) (1 ∷ []) head c.read_body.result took
    (reads_while _ _ _ _ (g.S.Source.kept c.args.src.now) (g.S.Source.kept c.read_full.new.src) (1 ∷ head) c.read_body.result c.in-Ok.ensures.kept c.read_body.ensures.reads)
