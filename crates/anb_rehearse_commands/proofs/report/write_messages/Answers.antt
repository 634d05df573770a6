use Rattle.std.proofs.Common.{◌≡◌, ◌+◌, ◌++◌, drop, ap, ◌∙◌, arith}
use Rattle.std.specs.List.{flat_map}
use Rattle.anb_lemmas.proofs.Lists.{drop_next}
use Rattle.anb_text.proofs.Written.{not_all, one_part, same_due}
use Rattle.anb_rehearse_commands.specs.Reports.{sent_line}
use Rattle.anb_rehearse_commands.proofs.report.write_messages.Goals as goal

pub returns-in-Err-clause-written : goal.returns-in-Err-clause-written
returns-in-Err-clause-written g c =
    let messages = c.args.messages.now in
    let i = c.loop-sent.sent-index in
    let x = c.sent-item.result in
    let part = sent_line x in
    let rest = flat_map sent_line (drop (i + 1) messages) in
    let left : flat_map sent_line (drop i messages) ≡ part ++ rest = ap (flat_map sent_line) (drop_next messages i x (omega arith) c.sent-item.is) in
    not_all (flat_map sent_line messages) _ _ _ _ _ _ part rest (same_due _ _ _ _ _ _ _ left c.loop-sent.invariant.due) c.in-Err.no (c.in-Err.ensures.written part c.sent_line.ensures)

pub loop-sent-preserved : goal.loop-sent-preserved
loop-sent-preserved g c =
    let messages = c.args.messages.now in
    let i = c.loop-sent.sent-index in
    let x = c.sent-item.result in
    let part = sent_line x in
    let rest = flat_map sent_line (drop (i + 1) messages) in
    let left : flat_map sent_line (drop i messages) ≡ part ++ rest = ap (flat_map sent_line) (drop_next messages i x (omega arith) c.sent-item.is) in
    record {
      due = one_part (flat_map sent_line messages) _ _ _ _ _ _ part rest (same_due _ _ _ _ _ _ _ left c.loop-sent.invariant.due) c.in-Ok.field-0 (c.in-Ok.ensures.written part c.sent_line.ensures);
      kept = c.write_part.ensures.kept ∙ c.loop-sent.invariant.kept;
    }
