use Rattle.std.proofs.Common.{◌≡◌, ◌+◌, ◌*◌, map, drop}
use Rattle.std.specs.Prelude.{◌==◌}
use Rattle.std.specs.List.{list_any}
use Rattle.anb_term.specs.Tree.{trees_of, tree_size, trees_size}
use Rattle.anb_term.specs.View.{tree_of}
use Rattle.anb_protocol.specs.Texts.{atoms_in_all}
use Rattle.anb_partner.proofs.planning.+has.Given as goal

abbrev pub decreases-has_atom : goal.decreases-has_atom
decreases-has_atom l = 2 * tree_size (tree_of l.t.now)

abbrev pub decreases-have_atom : goal.decreases-have_atom
decreases-have_atom l = 2 * trees_size (trees_of (map tree_of l.terms.now)) + 1

abbrev pub invariant-have_atom-loop-t : goal.invariant-have_atom-loop-t
invariant-have_atom-loop-t l =
    list_any (λ b. b == l.a) (atoms_in_all (trees_of (map tree_of (drop l.t-index l.terms))))
    ≡ list_any (λ b. b == l.a) (atoms_in_all (trees_of (map tree_of l.terms)))
