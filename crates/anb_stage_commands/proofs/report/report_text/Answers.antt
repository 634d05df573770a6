use Rattle.anb_stage_commands.specs.Reports.{sent_line}
use Rattle.anb_stage_commands.proofs.Lists.{flat_next}
use Rattle.anb_stage_commands.proofs.report.report_text.Goals as goal

pub loop-sent-preserved : goal.loop-sent-preserved
loop-sent-preserved c =
    flat_next sent_line c.args.messages.now c.loop-sent.sent-index c.sent-item.result c.loop-sent.text.items c.put_line.new.text.items
    c.loop-sent-test.true c.sent-item.is c.loop-sent.invariant c.in_ok-put_line.ensures
