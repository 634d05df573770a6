use Rattle.std.proofs.Common.{◌≡◌, ◌++◌, length, map, All}
use Rattle.anb_code.specs.Spelling.{instr_of}
use Rattle.anb_code.specs.Table.{HasCounts}
use Rattle.anb_code.proofs.spelling.instrs_of.Given as goal

abbrev pub invariant-loop-instr : goal.invariant-loop-instr
invariant-loop-instr l = record {
  counts : All HasCounts l.instr-iterator.rest.items;
  joined : l.instrs.items ++ map (instr_of l.formats) l.instr-iterator.rest.items ≡ map (instr_of l.formats) l.fn.raw.items;
  left : l.instr-iterator.rest.len ≡ length l.instr-iterator.rest.items;
}
