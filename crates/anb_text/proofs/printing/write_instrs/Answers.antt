use Rattle.std.proofs.Common.{◌≡◌, ◌+◌, ◌++◌, drop, map, ap, sym, ◌∙◌, arith}
use Rattle.std.proofs.lemmas.List.Sums.{sum_by-cons}
use Rattle.anb_lemmas.proofs.Lists.{drop_next}
use Rattle.anb_code.specs.Registers.{count_written}
use Rattle.anb_code.specs.Spelling.{raw_instr, raw_instrs}
use Rattle.anb_code.specs.Verified.{count_registers}
use Rattle.anb_text.specs.declared.lines.Line.TheVariants as line
use Rattle.anb_text.specs.RoleFiles.{ended, lines_text}
use Rattle.anb_text.proofs.Written.{not_all, one_part, same_due}
use Rattle.anb_text.proofs.printing.write_instrs.Goals as goal

pub returns-in-Err-clause-written : goal.returns-in-Err-clause-written
returns-in-Err-clause-written g c =
    let formats = c.args.formats.now in
    let instrs = c.args.instrs.now in
    let i = c.loop-instr.instr-index in
    let next = c.loop-instr.next in
    let x = c.instr-item.result in
    let part = ended (line.Instr (raw_instr formats next x)) in
    let rest = lines_text (map line.Instr (raw_instrs formats (next + count_written formats x) (drop (i + 1) instrs))) in
    let left : lines_text (map line.Instr (raw_instrs formats next (drop i instrs))) ≡ part ++ rest = ap (λ l. lines_text (map line.Instr (raw_instrs formats next l))) (drop_next instrs i x (omega arith) c.instr-item.is) in
    not_all (lines_text (map line.Instr (raw_instrs formats 0 instrs))) _ _ _ _ _ _ part rest (same_due _ _ _ _ _ _ _ left c.loop-instr.invariant.due) c.in-Err.no (c.in-Err.ensures.written part c.instr_text_at.ensures)

pub loop-instr-preserved : goal.loop-instr-preserved
loop-instr-preserved g c =
    let formats = c.args.formats.now in
    let instrs = c.args.instrs.now in
    let i = c.loop-instr.instr-index in
    let next = c.loop-instr.next in
    let x = c.instr-item.result in
    let n = c.count_written-next.result in
    let part = ended (line.Instr (raw_instr formats next x)) in
    let rest = lines_text (map line.Instr (raw_instrs formats (next + n) (drop (i + 1) instrs))) in
    let item = drop_next instrs i x (omega arith) c.instr-item.is in
    let left : lines_text (map line.Instr (raw_instrs formats next (drop i instrs))) ≡ part ++ rest =
    ap (λ l. lines_text (map line.Instr (raw_instrs formats next l))) item ∙ ap (λ k. part ++ lines_text (map line.Instr (raw_instrs formats (next + k) (drop (i + 1) instrs)))) (sym c.count_written-next.ensures) in
    record {
      due = one_part (lines_text (map line.Instr (raw_instrs formats 0 instrs))) _ _ _ _ _ _ part rest (same_due _ _ _ _ _ _ _ left c.loop-instr.invariant.due) c.in-Ok.field-0 (c.in-Ok.ensures.written part c.instr_text_at.ensures);
      kept = c.write_part.ensures.kept ∙ c.loop-instr.invariant.kept;
      count = omega (arith, c.loop-instr.invariant.count, c.count_written-next.ensures, ap (count_registers formats) item, sum_by-cons (count_written formats) x (drop (i + 1) instrs));
    }
