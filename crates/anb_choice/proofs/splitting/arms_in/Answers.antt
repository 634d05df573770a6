use Rattle.std.proofs.Common.{arith}
use Rattle.anb_choice.proofs.ReadArms.{first_refused, next_arm}
use Rattle.anb_choice.proofs.splitting.arms_in.Goals as goal

pub returns-in-Err-arm_of-clause-refused : goal.returns-in-Err-arm_of-clause-refused
returns-in-Err-arm_of-clause-refused c = λ some.
    first_refused c.args.text.now c.args.marks.now c.args.spans.now c.loop-i.i _ c.stem_end-stem_end.result c.deref.result.now c.in-Ok.straight.items (omega arith)
    c.stem_end-stem_end.ensures c.in-Ok.ensures.text c.deref.ensures.value c.loop-i.arms.items c.in-Err-arm_of.no c.loop-i.invariant (c.in-Err-arm_of.ensures.refused some)

pub loop-i-preserved : goal.loop-i-preserved
loop-i-preserved c =
    rw c.in_ok-push.ensures.items
    (next_arm c.args.text.now c.args.marks.now c.args.spans.now c.loop-i.i _ c.stem_end-stem_end.result c.deref.result.now c.in-Ok.straight.items (omega arith)
    c.stem_end-stem_end.ensures c.in-Ok.ensures.text c.deref.ensures.value c.in-Ok-arm_of.arm c.loop-i.arms.items c.in-Ok-arm_of.ensures.tells c.loop-i.invariant)
