use Rattle.std.proofs.Common.{◌≤◌, All, length, take}
use Rattle.std.specs.List.{AllZip}
use Rattle.anb_base.specs.declared.TheConstants.{SMALL_FILE}
use Rattle.anb_values.specs.Lines.{lines_of}
use Rattle.anb_value_mistakes.specs.Reading.{IsRead}
use Rattle.anb_value_mistakes.specs.declared.reading.ReadLine.{ReadLine}
use Rattle.anb_value_mistakes.proofs.reading.read_lines.Given as goal

abbrev pub invariant-loop-line : goal.invariant-loop-line
invariant-loop-line l = record {
  lines : AllZip IsRead (take (length l.yielded) (lines_of l.text)) l.reads.items;
  short : All (λ (read : ReadLine). length read.line ≤ SMALL_FILE) l.reads.items;
}
