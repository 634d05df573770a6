use Rattle.std.proofs.Common.{◌≡◌, ◌++◌, map}
use Rattle.anb_term.specs.Tree.{trees_of}
use Rattle.anb_term.specs.View.{tree_of}
use Rattle.anb_attempts.specs.Inner.{inner_before}
use Rattle.anb_attempts.specs.Parts.{inner_value, operands_value}
use Rattle.anb_attempts.proofs.inner.before.Given as goal

abbrev pub invariant-loop-first : goal.invariant-loop-first
invariant-loop-first l =
    map operands_value l.lists.items ++ map (inner_before (trees_of (map tree_of l.rest))) (map inner_value l.first-iterator.rest.items)
    ≡ map (inner_before (trees_of (map tree_of l.rest))) (map inner_value l.fn.inner.items)
