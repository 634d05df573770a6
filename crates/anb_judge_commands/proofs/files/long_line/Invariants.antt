use Rattle.std.proofs.Common.{◌≡◌, ◌+◌, drop}
use Rattle.anb_judge_commands.specs.JudgeCommand.{long_line}
use Rattle.anb_judge_commands.proofs.Reading.{long_from}
use Rattle.anb_judge_commands.proofs.files.long_line.Given as goal

abbrev pub invariant-loop-i : goal.invariant-loop-i
invariant-loop-i l = long_from (l.i + 1) (drop l.i l.lines) ≡ long_line l.lines
