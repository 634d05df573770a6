use Rattle.std.proofs.Common.{◌≡◌, ◌+◌, ◌++◌, drop}
use Rattle.anb_code.specs.Verified.{count_registers}
use Rattle.anb_report.specs.Collecting.{writes}
use Rattle.anb_report.specs.Looking.{written_by}
use Rattle.anb_report.proofs.registers.written.Given as goal

abbrev pub invariant-loop-instr : goal.invariant-loop-instr
invariant-loop-instr l = record {
  due : l.out.items ++ written_by l.formats (writes l.built) l.next (drop l.instr-index l.instrs) ≡ written_by l.formats (writes l.built) l.first l.instrs;
  few : l.next + count_registers l.formats (drop l.instr-index l.instrs) ≡ l.first + count_registers l.formats l.instrs;
}
