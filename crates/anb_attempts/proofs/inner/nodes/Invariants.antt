use Rattle.std.proofs.Common.{◌≡◌, ◌++◌, map}
use Rattle.anb_attempts.specs.Inner.{inner_node}
use Rattle.anb_attempts.specs.Parts.{inner_value, operands_value}
use Rattle.anb_attempts.proofs.inner.nodes.Given as goal

abbrev pub invariant-loop-list : goal.invariant-loop-list
invariant-loop-list l = map inner_value l.inner.items ++ map (inner_node l.op) (map operands_value l.list-iterator.rest.items) ≡ map (inner_node l.op) (map operands_value l.fn.lists.items)
