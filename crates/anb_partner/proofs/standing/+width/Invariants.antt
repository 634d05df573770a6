use Rattle.std.proofs.Common.{◌≡◌, ◌+◌, ◌*◌, map, drop}
use Rattle.std.specs.Option.{option_map}
use Rattle.anb_base.specs.declared.TheConstants.{ARRIVAL, WIDE}
use Rattle.anb_term.specs.Tree.{trees_of, tree_size, trees_size, AreFormed}
use Rattle.anb_term.specs.View.{tree_of}
use Rattle.anb_algebra.specs.ByteMeaning.{has_operator}
use Rattle.anb_protocol.specs.Widths.{widths_if}
use Rattle.anb_protocol.proofs.WidthLemmas.{behind}
use Rattle.anb_partner.proofs.standing.+width.Given as goal

abbrev pub decreases-width_of : goal.decreases-width_of
decreases-width_of l = 2 * tree_size (tree_of l.t.now)

abbrev pub decreases-widths_of : goal.decreases-widths_of
decreases-widths_of l = 2 * trees_size (trees_of (map tree_of l.terms.now)) + 1

abbrev pub invariant-widths_of-loop-t : goal.invariant-widths_of-loop-t
invariant-widths_of-loop-t l =
    record {
      formed : AreFormed (has_operator l.formats) (trees_of (map tree_of (drop l.t-index l.terms)));
      found : option_map (behind l.widths.items) (widths_if ARRIVAL l.formats WIDE (trees_of (map tree_of (drop l.t-index l.terms)))) ≡ widths_if ARRIVAL l.formats WIDE (trees_of (map tree_of l.terms));
    }
