use Rattle.std.proofs.Common.{◌≡◌, ◌++◌, drop}
use Rattle.anb_recording.specs.Lines.{lines_text}
use Rattle.anb_probe_commands.proofs.record.lines_text.Given as goal

abbrev pub invariant-loop-line : goal.invariant-loop-line
invariant-loop-line l = l.text.items ++ lines_text (drop l.line-index l.lines) ≡ lines_text l.lines
