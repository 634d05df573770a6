use Rattle.std.proofs.Common.{length, arith, sym, ◌∙◌, false}
use Rattle.anb_intern.specs.declared.node.NodeId.{NodeId}
use Rattle.anb_intern.proofs.Putting.{under_at}
use Rattle.anb_reason.proofs.Flagging.{flag_stops, flag_goes}
use Rattle.anb_reason.proofs.numbers.all_flagged.Goals as goal

pub bounds-flags-id : goal.bounds-flags-id
bounds-flags-id c = under_at (length c.args.flags.now) c.args.ids.now c.loop-id.id-index _ c.requires (omega arith)

pub returns-then-not-flags-id : goal.returns-then-not-flags-id
returns-then-not-flags-id c =
    let d : NodeId = record { 0 = 0 } in
    let h = under_at (length c.args.flags.now) c.args.ids.now c.loop-id.id-index d c.requires (omega arith) in
    sym (c.loop-id.invariant ∙ flag_stops c.args.flags.now c.args.ids.now c.loop-id.id-index d false (omega arith) h c.if-not-flags-id.true)

pub loop-id-preserved : goal.loop-id-preserved
loop-id-preserved c =
    let d : NodeId = record { 0 = 0 } in
    let h = under_at (length c.args.flags.now) c.args.ids.now c.loop-id.id-index d c.requires (omega arith) in
    c.loop-id.invariant ∙ flag_goes c.args.flags.now c.args.ids.now c.loop-id.id-index d false (omega arith) h c.if-not-flags-id.false
