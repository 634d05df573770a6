use Rattle.std.proofs.Common.{◌≡◌, ◌++◌, drop}
use Rattle.std.specs.List.{flat_map}
use Rattle.anb_report.specs.Collecting.{used}
use Rattle.anb_report.proofs.registers.used.Given as goal

abbrev pub invariant-loop-instr : goal.invariant-loop-instr
invariant-loop-instr l = l.out.items ++ flat_map (used l.how) (drop l.instr-index l.instrs) ≡ flat_map (used l.how) l.instrs
