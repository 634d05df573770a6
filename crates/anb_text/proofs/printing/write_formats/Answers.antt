use Rattle.std.proofs.Common.{◌≡◌, ◌+◌, ◌++◌, drop, map, ap, ◌∙◌, arith}
use Rattle.anb_lemmas.proofs.Lists.{drop_next}
use Rattle.anb_text.specs.declared.lines.Line.TheVariants as line
use Rattle.anb_text.specs.RoleFiles.{ended, lines_text}
use Rattle.anb_text.proofs.Written.{not_all, one_part, same_due}
use Rattle.anb_text.proofs.printing.write_formats.Goals as goal

pub returns-in-Err-clause-written : goal.returns-in-Err-clause-written
returns-in-Err-clause-written g c =
    let formats = c.args.formats.now in
    let i = c.loop-format.format-index in
    let x = c.format-item.result in
    let part = ended (line.Format x) in
    let rest = lines_text (map line.Format (drop (i + 1) formats)) in
    let left : lines_text (map line.Format (drop i formats)) ≡ part ++ rest = ap (λ l. lines_text (map line.Format l)) (drop_next formats i x (omega arith) c.format-item.is) in
    not_all (lines_text (map line.Format formats)) _ _ _ _ _ _ part rest (same_due _ _ _ _ _ _ _ left c.loop-format.invariant.due) c.in-Err.no (c.in-Err.ensures.written part c.format_text.ensures)

pub loop-format-preserved : goal.loop-format-preserved
loop-format-preserved g c =
    let formats = c.args.formats.now in
    let i = c.loop-format.format-index in
    let x = c.format-item.result in
    let part = ended (line.Format x) in
    let rest = lines_text (map line.Format (drop (i + 1) formats)) in
    let left : lines_text (map line.Format (drop i formats)) ≡ part ++ rest = ap (λ l. lines_text (map line.Format l)) (drop_next formats i x (omega arith) c.format-item.is) in
    record {
      due = one_part (lines_text (map line.Format formats)) _ _ _ _ _ _ part rest (same_due _ _ _ _ _ _ _ left c.loop-format.invariant.due) c.in-Ok.field-0 (c.in-Ok.ensures.written part c.format_text.ensures);
      kept = c.write_part.ensures.kept ∙ c.loop-format.invariant.kept;
    }
