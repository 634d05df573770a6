use Rattle.std.proofs.Common.{◌≡◌, ◌+◌, drop, map}
use Rattle.anb_code.specs.Spelling.{raw_instrs}
use Rattle.anb_code.specs.Verified.{count_registers}
use Rattle.anb_text.specs.declared.lines.Line.TheVariants as line
use Rattle.anb_text.specs.RoleFiles.{lines_text}
use Rattle.anb_text.proofs.Written.{Due}
use Rattle.anb_text.proofs.printing.write_instrs.Given as goal

abbrev pub invariant-loop-instr : goal.invariant-loop-instr
invariant-loop-instr g l = record {
  due : Due (lines_text (map line.Instr (raw_instrs l.formats 0 l.instrs))) (g.K.Sink.written l.fn.snk) (g.K.Sink.written l.snk) (g.K.Sink.faults l.fn.snk) (g.K.Sink.faults l.snk) (lines_text (map line.Instr (raw_instrs l.formats l.next (drop l.instr-index l.instrs))));
  kept : g.K.Sink.kept l.snk ≡ g.K.Sink.kept l.fn.snk;
  count : l.next + count_registers l.formats (drop l.instr-index l.instrs) ≡ count_registers l.formats l.instrs;
}
