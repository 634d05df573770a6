use Rattle.std.proofs.Common.{◌≡◌, length, take}
use Rattle.anb_values.specs.Lines.{AreSaid, lines_of}
use Rattle.anb_values.proofs.lines.entries.Given as goal

abbrev pub invariant-loop-line : goal.invariant-loop-line
invariant-loop-line l = record {
  number : l.number ≡ length l.yielded;
  said : AreSaid (take l.number (lines_of l.text)) l.entries.items;
}
