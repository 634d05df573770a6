use Rattle.std.proofs.Common.{refl, ap}
use Rattle.std.specs.List.{flat_map}
use Rattle.anb_text.proofs.Written.{due_as, last_part, one_part, same_written}
use Rattle.anb_rehearse_commands.specs.Reports.{counts_line, report_text, sent_line}
use Rattle.anb_rehearse_commands.proofs.report.write_report.Goals as goal

pub returns-clause-written : goal.returns-clause-written
returns-clause-written g c =
    let report = c.args.report.now in
    let due = one_part (report_text report) _ _ _ _ _ _ (flat_map sent_line report.sent) (counts_line report) (due_as _ _ _ _ refl) c.in-Ok.field-0
    (same_written _ _ _ _ _ _ _ (ap (flat_map sent_line) c.as_slice.ensures) c.in-Ok.ensures.written) in
    last_part (report_text report) _ _ _ _ _ _ (counts_line report) due c.write_part.result (c.write_part.ensures.written (counts_line report) c.counts_line.ensures)
