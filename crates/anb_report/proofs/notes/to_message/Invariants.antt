use Rattle.std.proofs.Common.{◌≡◌, ◌+◌, drop, length}
use Rattle.anb_report.specs.Noting.{up_to_message}
use Rattle.anb_report.proofs.notes.to_message.Given as goal

abbrev pub invariant-loop-i : goal.invariant-loop-i
invariant-loop-i l = l.i + length (up_to_message (drop l.i l.instrs)) ≡ length (up_to_message l.instrs)
