use Rattle.std.proofs.Common.{◌≡◌, ◌++◌, take}
use Rattle.anb_values_text.specs.Texts.{lines_text}
use Rattle.anb_values_text.proofs.put_lines.Given as goal

abbrev pub invariant-loop-i : goal.invariant-loop-i
invariant-loop-i l = l.out.items ≡ l.fn.out.items ++ lines_text (take l.i l.labels) (take l.i l.values)
