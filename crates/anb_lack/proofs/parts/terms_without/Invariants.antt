use Rattle.std.proofs.Common.{◌≡◌, List, map, take, length}
use Rattle.anb_term.specs.Tree.{Tree}
use Rattle.anb_term.specs.View.{tree_of}
use Rattle.anb_intern.specs.Nodes.{operands_at}
use Rattle.anb_reason.specs.Decided.{composes}
use Rattle.anb_lack.specs.Listing.{IsListing}
use Rattle.anb_lack.proofs.parts.terms_without.Given as goal

abbrev pub invariant-loop-id : goal.invariant-loop-id
invariant-loop-id l = record {
  long : length l.flags.items ≡ length l.pool;
  listing : (S : List Tree) → l.initial.flags.items ≡ map (composes S) l.pool
      → IsListing S l.pool l.flags.items (operands_at l.pool (take l.id-index l.ids)) (map tree_of l.terms.items);
}
