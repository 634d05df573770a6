use Rattle.std.proofs.Common.{◌≡◌, ◌++◌, map}
use Rattle.anb_term.specs.View.{tree_of}
use Rattle.anb_attempts.specs.Inner.{inner_behind}
use Rattle.anb_attempts.specs.Parts.{operands_value}
use Rattle.anb_attempts.proofs.inner.in_front.Given as goal

abbrev pub invariant-loop-list : goal.invariant-loop-list
invariant-loop-list l =
    map operands_value l.longer.items ++ map (inner_behind (tree_of l.first)) (map operands_value l.list-iterator.rest.items)
    ≡ map (inner_behind (tree_of l.first)) (map operands_value l.fn.lists.items)
