use Rattle.std.proofs.Common.{◌≡◌, ◌+◌, ◌++◌, drop}
use Rattle.anb_value_mistakes.specs.Mistakes.{faulty_texts}
use Rattle.anb_value_mistakes.proofs.telling.put_faulty_texts.Given as goal

abbrev pub invariant-loop-i : goal.invariant-loop-i
invariant-loop-i l = l.out.items ++ faulty_texts l.name (l.i + 1) (drop l.i l.reads) ≡ l.fn.out.items ++ faulty_texts l.name 1 l.reads
