use Rattle.std.proofs.Common.{◌≡◌, ◌+◌, ◌-◌, drop, false, replicate}
use Rattle.anb_code.specs.Verified.{count_registers}
use Rattle.anb_protocol.specs.Seen.{marked}
use Rattle.anb_report.specs.Looking.{asked, with_operands}
use Rattle.anb_report.proofs.seen.mark_operands.Given as goal

abbrev pub invariant-loop-k : goal.invariant-loop-k
invariant-loop-k l = record {
  due : l.marks.items ≡ marked (replicate (count_registers l.formats l.instrs) false) (with_operands l.formats (asked l.formats l.instrs) l.next (drop (l.count - l.k) l.instrs));
  few : l.next + count_registers l.formats (drop (l.count - l.k) l.instrs) ≡ count_registers l.formats l.instrs;
}
