use Rattle.std.proofs.Common.{length, arith, sym, ◌∙◌}
use Rattle.anb_intern.specs.declared.node.NodeId.{NodeId}
use Rattle.anb_intern.proofs.Putting.{under_at}
use Rattle.anb_close.specs.declared.index.Standing.TheVariants.{Nowhere}
use Rattle.anb_close.proofs.Indexing.{stand_stops, stand_goes}
use Rattle.anb_close.proofs.index.all_stand.Goals as goal

pub bounds-standings-id : goal.bounds-standings-id
bounds-standings-id c = under_at (length c.args.standings.now) c.args.ids.now c.loop-id.id-index _ c.requires.under (omega arith)

pub returns-then-not-is_found : goal.returns-then-not-is_found
returns-then-not-is_found c =
    let d : NodeId = record { 0 = 0 } in
    let h = under_at (length c.args.standings.now) c.args.ids.now c.loop-id.id-index d c.requires.under (omega arith) in
    sym c.if-not-is_found.true ∙ stand_stops c.args.standings.now c.args.ids.now c.loop-id.id-index d Nowhere c.is_found.result (omega arith) h c.is_found.ensures c.if-not-is_found.true ∙ sym c.loop-id.invariant

pub loop-id-preserved : goal.loop-id-preserved
loop-id-preserved c =
    let d : NodeId = record { 0 = 0 } in
    let h = under_at (length c.args.standings.now) c.args.ids.now c.loop-id.id-index d c.requires.under (omega arith) in
    c.loop-id.invariant ∙ stand_goes c.args.standings.now c.args.ids.now c.loop-id.id-index d Nowhere c.is_found.result (omega arith) h c.is_found.ensures c.if-not-is_found.false
