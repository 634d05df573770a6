use Rattle.std.proofs.Common.{arith}
use Rattle.anb_honest.proofs.Comparing.{kinds_next, kinds_broken, kinds_end}
use Rattle.anb_honest.proofs.order.keeps_order.Goals as goal

pub loop-instr-preserved : goal.loop-instr-preserved
loop-instr-preserved c = record {
  within = c.in-Some.ensures.within;
  same = λ formats.
      kinds_next formats c.args.instrs.now c.args.events.now c.loop-instr.instr-index c.instr-item.result c.loop-instr.next (omega arith) c.instr-item.is c.in-Some.later
      (c.loop-instr.invariant.same formats) (c.in-Some.ensures.some formats);
}

pub returns-in-None : goal.returns-in-None
returns-in-None c = λ formats.
    let n = c.in-None.ensures.none formats in
    kinds_broken formats c.args.instrs.now c.args.events.now c.loop-instr.instr-index c.instr-item.result c.loop-instr.next (omega arith) c.instr-item.is n.0 c.loop-instr.invariant.within
    (c.loop-instr.invariant.same formats) n.1 n.2

pub returns : goal.returns
returns c = λ formats.
    kinds_end formats c.args.instrs.now c.args.events.now c.loop-instr.instr-index c.loop-instr.next (omega arith) c.loop-instr.invariant.within (c.loop-instr.invariant.same formats)
