-- Each operand is smaller than the term.
use Rattle.std.specs.Prelude.{◌≤◌, List, [], ◌∷◌, map}
use Rattle.std.proofs.Common.{arith}
use denote.Param.Weighed.{most}
use Rattle.anb_term.specs.declared.term.Term.{Term}
use Rattle.anb_term.specs.declared.term.Term.TheVariants.{Atom, Node}
use Rattle.anb_term.specs.declared.term.Terms.TheDeep.{deep-Term}
use Rattle.anb_term.specs.Tree.{trees_of, tree_size, trees_size}
use Rattle.anb_term.specs.View.{tree_of}

deep_term : (t : Term) → deep-Term t ≤ tree_size (tree_of t)
deep_term (Atom n) = omega arith
deep_term (Node o ts) = omega arith

pub most_le_size : (ts : List Term) → most deep-Term ts ≤ trees_size (trees_of (map tree_of ts))
most_le_size [] = omega arith
most_le_size (t ∷ ts) = omega (arith, deep_term t, most_le_size ts)
