use Rattle.std.proofs.Common.{◌≡◌, ◌++◌, ◌+◌, ◌*◌, map, drop}
use Rattle.anb_term.specs.Tree.{trees_of, tree_size, trees_size}
use Rattle.anb_term.specs.View.{tree_of}
use Rattle.anb_protocol.specs.Texts.{atoms_in_all}
use Rattle.anb_protocol.proofs.seen.+atoms.Given as goal

abbrev pub decreases-put_atoms : goal.decreases-put_atoms
decreases-put_atoms l = 2 * tree_size (tree_of l.t.now)

abbrev pub decreases-put_all_atoms : goal.decreases-put_all_atoms
decreases-put_all_atoms l = 2 * trees_size (trees_of (map tree_of l.terms.now)) + 1

abbrev pub invariant-put_all_atoms-loop-t : goal.invariant-put_all_atoms-loop-t
invariant-put_all_atoms-loop-t l = l.out.items ++ atoms_in_all (trees_of (map tree_of (drop l.t-index l.terms))) ≡ l.initial.out.items ++ atoms_in_all (trees_of (map tree_of l.terms))
