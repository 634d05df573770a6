use Rattle.std.proofs.Common.{◌≡◌, drop}
use Rattle.std.specs.List.{flat_map}
use Rattle.anb_protocol.specs.Seen.{marked}
use Rattle.anb_report.specs.Looking.{compared}
use Rattle.anb_report.proofs.seen.mark_compared.Given as goal

abbrev pub invariant-loop-instr : goal.invariant-loop-instr
invariant-loop-instr l = marked l.marks.items (flat_map compared (drop l.instr-index l.instrs)) ≡ marked l.initial.marks.items (flat_map compared l.instrs)
