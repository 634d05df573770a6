use Rattle.std.proofs.Common.{◌≡◌, take, false, replicate}
use Rattle.anb_code.specs.Verified.{count_registers}
use Rattle.anb_protocol.specs.Seen.{marked}
use Rattle.anb_report.specs.Looking.{asked, with_operands, with_parts}
use Rattle.anb_report.proofs.seen.mark_parts.Given as goal

abbrev pub invariant-loop-instr : goal.invariant-loop-instr
invariant-loop-instr l = record {
  due : l.marks.items ≡ marked (replicate (count_registers l.formats l.instrs) false) (with_parts l.formats (with_operands l.formats (asked l.formats l.instrs) 0 l.instrs) 0 (take l.instr-index l.instrs));
  at : l.next ≡ count_registers l.formats (take l.instr-index l.instrs);
}
