use Rattle.std.proofs.Common.{◌+◌, ap, ◌∙◌, arith}
use Rattle.anb_code.specs.Verified.{count_registers}
use Rattle.anb_term.proofs.Lists.{slice_get-at}
use Rattle.anb_report.specs.Looking.{asked, with_operands}
use Rattle.anb_report.proofs.Items.{fewer_taken}
use Rattle.anb_report.proofs.Looked.{count_next, opened_at, parts_next}
use Rattle.anb_report.proofs.seen.mark_parts.Goals as goal

pub overflow_add-end : goal.overflow_add-end
overflow_add-end c =
    let formats = c.args.formats.now in
    let instrs = c.args.instrs.now in
    let i = c.loop-instr.instr-index in
    let x = c.instr-item.result in
    let here = slice_get-at instrs i x (omega arith) c.instr-item.is in
    omega (arith, c.loop-instr.invariant.at, count_next formats instrs i x here, fewer_taken formats (i + 1) instrs, c.count_written.ensures, c.requires.few)

pub loop-instr-preserved : goal.loop-instr-preserved
loop-instr-preserved c =
    let formats = c.args.formats.now in
    let instrs = c.args.instrs.now in
    let n = count_registers formats instrs in
    let some = with_operands formats (asked formats instrs) 0 instrs in
    let i = c.loop-instr.instr-index in
    let x = c.instr-item.result in
    let next = c.loop-instr.next in
    let marks = c.loop-instr.marks.items in
    let here = slice_get-at instrs i x (omega arith) c.instr-item.is in
    let by = ap (λ k. next + k) c.count_written.ensures in
    let within = opened_at n instrs i x here c.requires.written in
    record {
      due = c.mark_parts_of.ensures ∙ parts_next formats instrs i x here some n next (next + c.count_written.result) c.loop-instr.invariant.at by within marks c.loop-instr.invariant.due;
      at = omega (arith, c.loop-instr.invariant.at, count_next formats instrs i x here, c.count_written.ensures);
    }
