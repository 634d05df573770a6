use Rattle.std.proofs.Common.{IsTrue, arith}
use Rattle.anb_partner.specs.Plans.{MayStand}
use Rattle.anb_attempts.proofs.Turns.{one_holds}
use Rattle.anb_attempts.proofs.scenes.all_may_stand.Goals as goal

pub returns-then-not-branch : goal.returns-then-not-branch
returns-then-not-branch c = (
  (λ e. cc),
  (λ all.
      let one = one_holds (MayStand c.args.p.now) c.args.terms.now c.loop-t.t-index c.t-item.result (omega arith) c.t-item.is all in
      let yes : IsTrue c.in_ok-may_stand.field-0 = c.in_ok-may_stand.ensures.1 one in
      let no = c.if-not-branch.true in
      cc),
)
