use Rattle.std.proofs.Common.{List, [], arith, sym, subst, map, length}
use Rattle.anb_term.specs.declared.term.Term.{Term}
use Rattle.anb_term.specs.Tree.{Tree}
use Rattle.anb_term.specs.View.{tree_of}
use Rattle.anb_term.proofs.Lists.{slice_get-there}
use Rattle.anb_intern.specs.declared.node.NodeId.{NodeId}
use Rattle.anb_intern.proofs.Putting.{under_at}
use Rattle.anb_lack.specs.Listing.{IsListing}
use Rattle.anb_lack.proofs.Parting.{listing_begins, seen_more}
use Rattle.anb_lack.proofs.parts.terms_without.Goals as goal

pub list-requires : goal.list-requires
list-requires c =
    let d : NodeId = record { 0 = 0 } in
    record { within = under_at (length c.args.pool.now) c.args.ids.now c.loop-id.id-index d c.requires.under (omega arith); long = c.loop-id.invariant.long }

pub loop-id-preserved : goal.loop-id-preserved
loop-id-preserved c =
    let d : NodeId = record { 0 = 0 } in
    let ts = c.args.pool.now in
    let ids = c.args.ids.now in
    let i = c.loop-id.id-index in
    let there = slice_get-there ts _ (under_at (length ts) ids i d c.requires.under (omega arith)) in
    record {
      long = c.in_ok-list.ensures.long;
      listing = λ S is. subst (λ (seen : List Tree). IsListing S ts c.list.new.flags.items seen (map tree_of c.list.new.terms.items)) (sym (seen_more ts ids i d there.0 (omega arith) there.1))
          (c.in_ok-list.ensures.listing S _ there.0 there.1 (c.loop-id.invariant.listing S is));
    }

pub loop-id-init : goal.loop-id-init
loop-id-init c = record { long = c.requires.long; listing = λ S is. subst (λ (ts : List Term). IsListing S c.args.pool.now c.args.flags.items [] (map tree_of ts)) (sym c.new-terms.ensures.items) (listing_begins S c.args.pool.now c.args.flags.items is) }
