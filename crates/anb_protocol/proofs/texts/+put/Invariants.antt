use Rattle.std.proofs.Common.{◌≡◌, ◌++◌, ◌+◌, ◌*◌, map}
use Rattle.std.specs.Prelude.{string_bytes}
use Rattle.anb_term.specs.Tree.{trees_of, tree_size, trees_size}
use Rattle.anb_term.specs.View.{tree_of}
use Rattle.anb_protocol.specs.Views.{value_of}
use Rattle.anb_protocol.proofs.TextLemmas.{left}
use Rattle.anb_protocol.proofs.texts.+put.Given as goal

abbrev pub decreases-put_term : goal.decreases-put_term
decreases-put_term l = 2 * tree_size (tree_of l.t.now)

abbrev pub decreases-put_operands : goal.decreases-put_operands
decreases-put_operands l = 2 * trees_size (trees_of (map tree_of l.operands.now)) + 1

abbrev pub invariant-put_operands-loop-t : goal.invariant-put_operands-loop-t
invariant-put_operands-loop-t l = string_bytes l.out ++ left (value_of l.parts) l.operands l.first l.t-index ≡ string_bytes l.initial.out ++ left (value_of l.parts) l.operands l.initial.first 0
