use Rattle.std.proofs.Common.{◌≡◌, ℕ, ◌++◌, ◌+◌, ◌*◌, List, map, drop, length}
use Rattle.anb_term.specs.Tree.{trees_of, tree_size, trees_size, AreFormed}
use Rattle.anb_term.specs.View.{tree_of}
use Rattle.anb_algebra.specs.ByteMeaning.{byte_meaning, has_operator}
use Rattle.anb_plays.specs.Honest.{honest_all}
use Rattle.anb_honest.specs.Given.{Gives}
use Rattle.anb_honest.proofs.given.+honest.Given as goal

abbrev pub decreases-honest_bytes : goal.decreases-honest_bytes
decreases-honest_bytes l = 2 * tree_size (tree_of l.t.now)

abbrev pub decreases-all_honest_bytes : goal.decreases-all_honest_bytes
decreases-all_honest_bytes l = 2 * trees_size (trees_of (map tree_of l.terms.now)) + 1

abbrev pub invariant-all_honest_bytes-loop-t : goal.invariant-all_honest_bytes-loop-t
invariant-all_honest_bytes-loop-t l = record {
  formed : AreFormed (has_operator l.algebra.formats) (trees_of (map tree_of (drop l.t-index l.terms)));
  values : (atoms : ℕ → List ℕ) → Gives l.given atoms
      → l.table.items ++ honest_all (byte_meaning l.algebra.formats l.algebra.suite) atoms (trees_of (map tree_of (drop l.t-index l.terms)))
      ≡ honest_all (byte_meaning l.algebra.formats l.algebra.suite) atoms (trees_of (map tree_of l.terms));
  count : length l.table.items ≡ l.t-index;
}
