use Rattle.std.proofs.Common.{◌≡◌, ◌++◌, drop}
use Rattle.std.specs.List.{concat}
use Rattle.anb_probe_commands.proofs.report.put_lines.Given as goal

abbrev pub invariant-loop-line : goal.invariant-loop-line
invariant-loop-line l = l.text.items ++ concat (drop l.line-index l.lines) ≡ l.initial.text.items ++ concat l.lines
