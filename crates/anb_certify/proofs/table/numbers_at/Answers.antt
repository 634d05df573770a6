use Rattle.std.proofs.Common.{◌++◌, ◌∷◌, [], refl, sym, ap, ◌∙◌}
use Rattle.std.specs.Prelude.{get_or}
use Rattle.anb_intern.specs.declared.node.NodeId.{NodeId}
use Rattle.anb_certify.proofs.Placing.{picked_next}
use Rattle.anb_certify.proofs.table.numbers_at.Goals as goal

pub loop-r-preserved : goal.loop-r-preserved
loop-r-preserved c =
    let ids = c.args.ids.now in
    let at = c.args.at.now in
    let i = c.loop-r.r-index in
    let d : NodeId = record { 0 = 0 } in
    c.in_ok-push.ensures.items ∙ ap (λ l. l ++ get_or ids (get_or at i 0) d ∷ []) c.loop-r.invariant
    ∙ sym (picked_next ids at i 0 (get_or ids (get_or at i 0) d) d c.loop-r-test.true (c.requires i 0 c.loop-r-test.true) refl)
