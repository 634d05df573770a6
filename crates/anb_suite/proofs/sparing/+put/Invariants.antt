use Rattle.std.proofs.Common.{◌≡◌, ◌+◌, ◌*◌, map, take}
use Rattle.anb_term.specs.Tree.{tree_size, trees_size, trees_of}
use Rattle.anb_term.specs.View.{tree_of}
use Rattle.anb_unify.specs.Substitutions.{put_in}
use Rattle.anb_suite.specs.Sparing.{spared_at}
use Rattle.anb_suite.proofs.sparing.+put.Given as goal

abbrev pub decreases-put : goal.decreases-put
decreases-put l = 2 * tree_size (tree_of l.pattern.now)

abbrev pub decreases-put_all : goal.decreases-put_all
decreases-put_all l = 2 * trees_size (trees_of (map tree_of l.patterns.now)) + 1

abbrev pub invariant-put_all-loop-pattern : goal.invariant-put_all-loop-pattern
invariant-put_all-loop-pattern l = map tree_of l.terms.items ≡ map (λ t. put_in (spared_at l.spare l.v (map tree_of l.narrated)) (tree_of t)) (take l.pattern-index l.patterns)
