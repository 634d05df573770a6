use Rattle.std.proofs.Common.{sym, ◌∙◌, subst, arith}
use Rattle.anb_park.specs.Going.{AreFrames}
use Rattle.anb_park.proofs.Framed.{one_left, first_frame, next_of, not_so, pushed}
use Rattle.anb_park.proofs.body.read_values.Goals as goal

pub unreachable-requires : goal.unreachable-requires
unreachable-requires c =
    let (bs, frames, enough) = c.requires in
    one_left bs c.loop.counter c.loop.rest.now (omega (arith, c.loop-test.true, enough)) (c.loop.invariant bs frames).1 (λ b r fits e. not_so (c.in_default.ensures.again b r fits e))

pub loop-preserved : goal.loop-preserved
loop-preserved c = λ bs a.
    let was = c.loop.invariant bs a in
    let value = c.in-Some.value.now in
    let first = first_frame c.loop.rest.now value c.in-Some.behind.now _ was.1 c.in-Some.ensures.fits c.in-Some.ensures.some in
    let next = next_of bs c.loop.counter value first.0 first.1 in (
      pushed c.loop.values.items c.push.new.self.items bs c.loop.counter value c.new.result c.in_ok-push.ensures.items was.0 (c.new.ensures ∙ c.in_ok-from_slice.ensures.items) next.0,
      subst (AreFrames c.in-Some.behind.now) (sym next.1) first.2,
    )
