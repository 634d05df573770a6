use Rattle.std.proofs.Common.{◌≡◌, ◌++◌, drop}
use Rattle.anb_term.specs.Lawful.{picked}
use Rattle.anb_term.proofs.trees.TermAlgebraAlgebra.build.Given as goal

abbrev pub invariant-loop-i : goal.invariant-loop-i
invariant-loop-i l = l.operands.items ++ picked l.table (drop l.i-index l.at) ≡ picked l.table l.at
