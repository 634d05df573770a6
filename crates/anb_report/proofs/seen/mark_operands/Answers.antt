use Rattle.std.proofs.Common.{◌≡◌, ◌+◌, ◌-◌, drop, length, false, replicate, ap, ◌∙◌, arith}
use Rattle.anb_code.specs.Registers.{count_written}
use Rattle.anb_code.specs.Verified.{count_registers}
use Rattle.anb_protocol.specs.Seen.{marked}
use Rattle.anb_term.proofs.Lists.{slice_get-at}
use Rattle.anb_report.specs.Looking.{asked, with_operands}
use Rattle.anb_report.proofs.Items.{count_first, fewer_left}
use Rattle.anb_report.proofs.Looked.{operands_first}
use Rattle.anb_report.proofs.seen.mark_operands.Goals as goal

pub overflow_sub-next : goal.overflow_sub-next
overflow_sub-next c =
    let formats = c.args.formats.now in
    let instrs = c.args.instrs.now in
    let i = length instrs - 1 - c.loop-k.k in
    let x = c.index-instrs-count.result in
    let here = slice_get-at instrs i x (omega arith) c.index-instrs-count.is in
    let behind : length instrs - c.loop-k.k ≡ i + 1 = omega arith in
    let left = ap (λ n. count_registers formats (drop n instrs)) behind in
    omega (arith, c.loop-k.invariant.few, left, count_first formats instrs i x here, fewer_left formats i instrs, c.count_written.ensures)

pub loop-k-preserved : goal.loop-k-preserved
loop-k-preserved c =
    let formats = c.args.formats.now in
    let instrs = c.args.instrs.now in
    let n = count_registers formats instrs in
    let some = asked formats instrs in
    let i = length instrs - 1 - c.loop-k.k in
    let x = c.index-instrs-count.result in
    let next = c.loop-k.next in
    let marks = c.loop-k.marks.items in
    let here = slice_get-at instrs i x (omega arith) c.index-instrs-count.is in
    let behind : length instrs - c.loop-k.k ≡ i + 1 = omega arith in
    let at : i ≡ length instrs - (c.loop-k.k + 1) = omega arith in
    let left = ap (λ k. count_registers formats (drop k instrs)) behind in
    let all = ap (λ k. count_registers formats (drop k instrs)) at in
    let first = count_first formats instrs i x here in
    let by : next ≡ next - c.count_written.result + count_written formats x = omega (arith, c.loop-k.invariant.few, left, first, fewer_left formats i instrs, c.count_written.ensures) in
    let due = c.loop-k.invariant.due ∙ ap (λ k. marked (replicate n false) (with_operands formats some next (drop k instrs))) behind in
    record {
      due = c.mark_operands_of.ensures ∙ operands_first formats instrs i x here some n (next - c.count_written.result) next by (omega (arith, c.loop-k.invariant.few)) marks due
          ∙ ap (λ k. marked (replicate n false) (with_operands formats some (next - c.count_written.result) (drop k instrs))) at;
      few = omega (arith, c.loop-k.invariant.few, left, all, first, fewer_left formats i instrs, c.count_written.ensures);
    }
