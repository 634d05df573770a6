use Rattle.std.proofs.Common.{length, arith, ap, ◌∙◌, false, ◌∷◌, [], ◌||◌, length-append}
use Rattle.std.specs.Prelude.{get_or}
use Rattle.anb_reason.specs.Flags.{is_built}
use Rattle.anb_reason.proofs.Flagging.{composing_next}
use Rattle.anb_reason.proofs.numbers.composing.Goals as goal

pub loop-n-preserved : goal.loop-n-preserved
loop-n-preserved c =
    let i = c.loop-n.invariant in
    let flags = c.loop-n.flags.items in
    record {
      long = omega (arith, i.long, ap length c.in_ok-push.ensures.items, length-append flags (c.is_composed-composes.result ∷ []));
      step = λ S h. c.in_ok-push.ensures.items ∙ composing_next S c.args.pool.now c.args.marks.now flags c.loop-n.n c.get.result.now c.is_composed-composes.result (omega (arith, c.len-n-end.ensures.count)) h (i.step S h)
          c.get.ensures.stands c.get.ensures.before (c.is_composed-composes.ensures ∙ ap (λ l. get_or c.args.marks.now c.loop-n.n false || is_built l c.get.result.now) c.deref.ensures.value);
    }
