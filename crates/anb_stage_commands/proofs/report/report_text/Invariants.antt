use Rattle.std.proofs.Common.{◌≡◌, take}
use Rattle.std.specs.List.{flat_map}
use Rattle.anb_stage_commands.specs.Reports.{sent_line}
use Rattle.anb_stage_commands.proofs.report.report_text.Given as goal

abbrev pub invariant-loop-sent : goal.invariant-loop-sent
invariant-loop-sent l = l.text.items ≡ flat_map sent_line (take l.sent-index l.messages)
