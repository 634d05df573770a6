use Rattle.std.proofs.Common.{length, arith, ap, ◌∙◌, false}
use Rattle.std.specs.Prelude.{replicate, take}
use Rattle.std.proofs.lemmas.List.{length-map}
use Rattle.anb_intern.specs.declared.node.NodeId.{NodeId}
use Rattle.anb_intern.specs.Nodes.{operands_at}
use Rattle.anb_intern.proofs.Putting.{under_at}
use Rattle.anb_reason.specs.Decided.{is_among}
use Rattle.anb_reason.proofs.Flagging.{no_marks, mark_step}
use Rattle.anb_reason.proofs.numbers.marks.Goals as goal

pub loop-id-init : goal.loop-id-init
loop-id-init c = c.in_ok-flags.ensures ∙ ap (λ n. replicate n false) c.len.ensures.count ∙ no_marks c.args.pool.now

pub index_mut-requires : goal.index_mut-requires
index_mut-requires c =
    let i = c.loop-id.invariant in
    let d : NodeId = record { 0 = 0 } in
    omega (
      arith,
      under_at (length c.args.pool.now) c.args.ids.now c.loop-id.id-index d c.requires (omega arith),
      ap length i,
      length-map c.args.pool.now (is_among (operands_at c.args.pool.now (take c.loop-id.id-index c.args.ids.now))),
      c.loop-id.flags.ok.0,
    )

pub loop-id-preserved : goal.loop-id-preserved
loop-id-preserved c =
    let d : NodeId = record { 0 = 0 } in
    mark_step c.args.pool.now c.loop-id.flags.items c.args.ids.now c.loop-id.id-index d c.len.ensures.distinct c.requires (omega arith) c.loop-id.invariant
