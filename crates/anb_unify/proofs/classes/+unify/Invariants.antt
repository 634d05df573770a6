-- The operands so far are in one class each.
use Rattle.std.proofs.Common.{◌≡◌, ℕ, ◌+◌, ◌*◌, map, take}
use Rattle.anb_term.specs.Tree.{Tree, tree_size, trees_size, trees_of}
use Rattle.anb_term.specs.View.{tree_of}
use Rattle.anb_intern.specs.Nodes.{operands_at}
use Rattle.anb_unify.specs.Substitutions.{put_in}
use Rattle.anb_unify.specs.Classes.{AreClasses, Respects, AreClosed}
use Rattle.anb_unify.proofs.classes.+unify.Given as goal

abbrev pub invariant-unify_all-loop-i : goal.invariant-unify_all-loop-i
invariant-unify_all-loop-i l = record {
  classes : AreClasses l.names l.pool l.parents.items;
  back : (f : Tree → Tree) → Respects l.pool f l.parents.items → Respects l.pool f l.initial.parents.items;
  same : (f : Tree → Tree) → Respects l.pool f l.parents.items → map f (take l.i (operands_at l.pool l.ones)) ≡ map f (take l.i (operands_at l.pool l.others));
  closed : (f : Tree → Tree) → Respects l.pool f l.parents.items → AreClosed l.names l.pool f l.initial.parents.items → AreClosed l.names l.pool f l.parents.items;
  general : (put : ℕ → Tree) → Respects l.pool (put_in put) l.initial.parents.items → map (put_in put) (operands_at l.pool l.ones) ≡ map (put_in put) (operands_at l.pool l.others) → Respects l.pool (put_in put) l.parents.items;
}

abbrev pub decreases-unify : goal.decreases-unify
decreases-unify l = 2 * tree_size (tree_of l.narrated.now)

abbrev pub decreases-unify_all : goal.decreases-unify_all
decreases-unify_all l = 2 * trees_size (trees_of (map tree_of l.narrated.now)) + 1
