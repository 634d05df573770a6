use Rattle.std.proofs.Common.{◌≡◌, ◌++◌, ◌+◌, ◌*◌, drop, map, true}
use Rattle.anb_term.specs.Tree.{trees_of, tree_size, trees_size}
use Rattle.anb_term.specs.View.{tree_of}
use Rattle.anb_probe_commands.specs.Frames.{shown_all}
use Rattle.anb_probe_commands.proofs.frames.+show.Given as goal

abbrev pub decreases-put_term : goal.decreases-put_term
decreases-put_term l = 2 * tree_size (tree_of l.t.now)

abbrev pub decreases-put_operands : goal.decreases-put_operands
decreases-put_operands l = 2 * trees_size (trees_of (map tree_of l.operands.now)) + 1

abbrev pub invariant-put_operands-loop-t : goal.invariant-put_operands-loop-t
invariant-put_operands-loop-t l =
    l.out.items ++ shown_all l.p l.is_first (trees_of (map tree_of (drop l.t-index l.operands)))
    ≡ l.initial.out.items ++ shown_all l.p true (trees_of (map tree_of l.operands))
