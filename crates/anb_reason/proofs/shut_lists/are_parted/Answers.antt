use Rattle.std.proofs.Common.{length, arith, sym, ap, ◌∙◌, drop, ◌+◌, ◌&&◌}
use Rattle.std.specs.List.{list_all}
use Rattle.anb_intern.specs.declared.node.NodeId.{NodeId}
use Rattle.anb_intern.specs.Nodes.{operands_at, tree_at}
use Rattle.anb_intern.proofs.Putting.{under_at}
use Rattle.anb_intern.proofs.Nodes.{over_more}
use Rattle.anb_reason.specs.Decided.{parts_in}
use Rattle.anb_reason.proofs.Flagging.{parted_is, test_step}
use Rattle.anb_reason.proofs.shut_lists.are_parted.Goals as goal

pub get-requires : goal.get-requires
get-requires c = under_at (length c.args.pool.now) c.args.ids.now c.loop-id.id-index _ c.requires.under (omega arith)

pub is_parted-requires-clause-marks : goal.is_parted-requires-clause-marks
is_parted-requires-clause-marks c =
    let d : NodeId = record { 0 = 0 } in
    over_more _ (length c.args.marks.now) c.get.result.now (omega (arith, under_at (length c.args.pool.now) c.args.ids.now c.loop-id.id-index d c.requires.under (omega arith), c.requires.marks)) c.get.ensures.before

pub is_parted-requires-clause-composing : goal.is_parted-requires-clause-composing
is_parted-requires-clause-composing c =
    let d : NodeId = record { 0 = 0 } in
    over_more _ (length c.args.composing.now) c.get.result.now (omega (arith, under_at (length c.args.pool.now) c.args.ids.now c.loop-id.id-index d c.requires.under (omega arith), c.requires.composing)) c.get.ensures.before

pub returns-then-not-is_parted : goal.returns-then-not-is_parted
returns-then-not-is_parted c S m k =
    let d : NodeId = record { 0 = 0 } in
    let pool = c.args.pool.now in
    let ids = c.args.ids.now in
    let over = over_more _ (length pool) c.get.result.now (omega (arith, under_at (length pool) ids c.loop-id.id-index d c.requires.under (omega arith))) c.get.ensures.before in
    let no = sym (parted_is S pool c.args.marks.now c.args.composing.now c.get.result.now m k over) ∙ sym c.is_parted.ensures ∙ c.if-not-is_parted.true in
    sym (c.loop-id.invariant S m k ∙ test_step (parts_in S) pool ids c.loop-id.id-index d (tree_at pool c.get.result.now) (omega arith) c.get.ensures.stands
    ∙ ap (λ x. x && list_all (parts_in S) (operands_at pool (drop (c.loop-id.id-index + 1) ids))) no)

pub loop-id-preserved : goal.loop-id-preserved
loop-id-preserved c S m k =
    let d : NodeId = record { 0 = 0 } in
    let pool = c.args.pool.now in
    let ids = c.args.ids.now in
    let over = over_more _ (length pool) c.get.result.now (omega (arith, under_at (length pool) ids c.loop-id.id-index d c.requires.under (omega arith))) c.get.ensures.before in
    let yes = sym (parted_is S pool c.args.marks.now c.args.composing.now c.get.result.now m k over) ∙ sym c.is_parted.ensures ∙ c.if-not-is_parted.false in
    c.loop-id.invariant S m k ∙ test_step (parts_in S) pool ids c.loop-id.id-index d (tree_at pool c.get.result.now) (omega arith) c.get.ensures.stands
    ∙ ap (λ x. x && list_all (parts_in S) (operands_at pool (drop (c.loop-id.id-index + 1) ids))) yes
