use Rattle.std.proofs.Common.{◌≡◌, ◌+◌, ◌*◌, ◌++◌, map, drop}
use Rattle.anb_term.specs.Tree.{trees_of, tree_size, trees_size}
use Rattle.anb_term.specs.View.{tree_of}
use Rattle.anb_pattern.specs.Taken.{operands_text}
use Rattle.anb_pattern.proofs.texts.+pattern.Given as goal

abbrev pub decreases-put_pattern : goal.decreases-put_pattern
decreases-put_pattern l = 2 * tree_size (tree_of l.t.now)

abbrev pub decreases-put_operands : goal.decreases-put_operands
decreases-put_operands l = 2 * trees_size (trees_of (map tree_of l.terms.now)) + 1

abbrev pub invariant-put_operands-loop-i : goal.invariant-put_operands-loop-i
invariant-put_operands-loop-i l =
    l.out.items ++ operands_text l.protocol l.i (trees_of (map tree_of (drop l.i l.terms))) ≡ l.initial.out.items ++ operands_text l.protocol 0 (trees_of (map tree_of l.terms))
