use Rattle.std.proofs.Common.{◌≡◌, ◌++◌, map}
use Rattle.anb_term.specs.View.{tree_of}
use Rattle.anb_accept.specs.Equations.{entries_from}
use Rattle.anb_accept.proofs.equation.put_parts.Given as goal

abbrev pub invariant-loop-part : goal.invariant-loop-part
invariant-loop-part l = map tree_of l.operands.items ≡ map tree_of l.initial.operands.items ++ entries_from l.names l.first l.part
