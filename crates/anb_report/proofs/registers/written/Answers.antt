use Rattle.std.proofs.Common.{◌+◌, ◌-◌, [], ◌++◌, drop, sym, ap, ◌∙◌, arith, append_assoc}
use Rattle.std.specs.Prelude.{if◌then◌else◌}
use Rattle.std.specs.List.{range_with_len}
use Rattle.anb_term.proofs.Lists.{slice_get-at}
use Rattle.anb_report.specs.Collecting.{writes}
use Rattle.anb_report.specs.Looking.{written_by}
use Rattle.anb_report.proofs.Items.{count_first, written_first}
use Rattle.anb_report.proofs.registers.written.Goals as goal

pub loop-instr-preserved : goal.loop-instr-preserved
loop-instr-preserved c =
    let formats = c.args.formats.now in
    let instrs = c.args.instrs.now in
    let test = writes c.args.built in
    let i = c.loop-instr.instr-index in
    let x = c.instr-item.result in
    let next = c.loop-instr.next in
    let end = next + c.count_written.result in
    let here = slice_get-at instrs i x (omega arith) c.instr-item.is in
    let by = ap (λ n. next + n) c.count_written.ensures in
    let out = c.loop-instr.out.items in
    let later = written_by formats test end (drop (i + 1) instrs) in
    let these = if test x then range_with_len next (end - next) else [] in
    record {
      due = ap (λ l. l ++ later) c.in_ok-put_written.ensures ∙ append_assoc out these later ∙ ap (λ l. out ++ l) (sym (written_first formats instrs i x here next end by test)) ∙ c.loop-instr.invariant.due;
      few = omega (arith, c.loop-instr.invariant.few, count_first formats instrs i x here, c.count_written.ensures);
    }
