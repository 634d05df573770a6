use Rattle.std.proofs.Common.{◌+◌, refl}
use Rattle.anb_code.specs.Uses.{AreLastUses}
use Rattle.anb_code.specs.Registers.{count_written}
use Rattle.anb_code.proofs.LastUses.{operands_written, uses_next}
use Rattle.anb_code.proofs.uses.last_uses.Goals as goal

pub mark_operands-requires : goal.mark_operands-requires
mark_operands-requires c =
    operands_written c.args.formats.now c.args.instrs.now c.loop-i.i c.index-instrs-i.result c.loop-i.uses.items c.requires.verified c.loop-i-test.true c.index-instrs-i.is c.loop-i.invariant

pub loop-i-preserved : goal.loop-i-preserved
loop-i-preserved c =
    rw (c.in_ok-put_copies.ensures, c.count_written.ensures)
    (uses_next c.args.formats.now c.args.instrs.now c.loop-i.i c.index-instrs-i.result c.loop-i.uses.items c.mark_operands.new.uses.items (c.loop-i.i + 1) refl c.loop-i-test.true c.index-instrs-i.is c.loop-i.invariant c.mark_operands.ensures)
