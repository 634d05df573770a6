use Rattle.std.proofs.Common.{◌≡◌, ◌+◌, ◌*◌, map, take}
use Rattle.anb_term.specs.Tree.{tree_size, trees_of, trees_size}
use Rattle.anb_term.specs.View.{tree_of}
use Rattle.anb_unify.specs.Substitutions.{put_in}
use Rattle.anb_attempts.specs.Inner.{in_place_of}
use Rattle.anb_attempts.proofs.inner.+put.Given as goal

abbrev pub decreases-put : goal.decreases-put
decreases-put l = 2 * tree_size (tree_of l.t.now)

abbrev pub decreases-put_all : goal.decreases-put_all
decreases-put_all l = 2 * trees_size (trees_of (map tree_of l.terms.now)) + 1

abbrev pub invariant-put_all-loop-t : goal.invariant-put_all-loop-t
invariant-put_all-loop-t l = map tree_of l.made.items ≡ map (λ t. put_in (in_place_of l.spare (tree_of l.other)) (tree_of t)) (take l.t-index l.terms)
