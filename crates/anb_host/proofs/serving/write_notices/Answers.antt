use Rattle.std.proofs.Common.{arith, ◌∙◌, subst}
use Rattle.anb_base.specs.Moves.{Put, PutPrefix}
use Rattle.anb_host.proofs.Writing.{front_put, next_put, next_put_in_part}
use Rattle.anb_host.proofs.serving.write_notices.Goals as goal

pub loop-notice-preserved : goal.loop-notice-preserved
loop-notice-preserved g c =
    let was = c.loop-notice.invariant in
    let put = subst (Put (g.W.Sink.written c.loop-notice.wire) (g.W.Sink.written c.write_whole.new.snk)) (c.as_slice.ensures ∙ c.in-Ok.ensures) c.in-Ok-write_whole.ensures.put in
    record {
      put = next_put c.args.told.now c.loop-notice.notice-index c.notice-item.result c.loop-notice-test.true c.notice-item.is _ _ _ was.put put;
      quiet = c.in-Ok-write_whole.ensures.quiet ∙ was.quiet;
      never_falls = omega (arith, was.never_falls, c.write_whole.ensures.never_falls);
      kept = c.write_whole.ensures.kept ∙ was.kept;
    }

pub returns-in_default-clause-prefix : goal.returns-in_default-clause-prefix
returns-in_default-clause-prefix g c = front_put c.args.told.now c.loop-notice.notice-index _ _ c.loop-notice.invariant.put

pub returns-in_default-write_whole-clause-prefix : goal.returns-in_default-write_whole-clause-prefix
returns-in_default-write_whole-clause-prefix g c =
    let part = subst (PutPrefix (g.W.Sink.written c.loop-notice.wire) (g.W.Sink.written c.write_whole.new.snk)) (c.as_slice.ensures ∙ c.in-Ok.ensures) c.in_default-write_whole.ensures.failed in
    next_put_in_part c.args.told.now c.loop-notice.notice-index c.notice-item.result c.loop-notice-test.true c.notice-item.is _ _ _ c.loop-notice.invariant.put part

pub returns-in_default-clause-told : goal.returns-in_default-clause-told
returns-in_default-clause-told g c = λ rose. absurd (omega (arith, rose, c.loop-notice.invariant.quiet))

pub returns-clause-told : goal.returns-clause-told
returns-clause-told g c = λ rose. absurd (omega (arith, rose, c.loop-notice.invariant.quiet))
