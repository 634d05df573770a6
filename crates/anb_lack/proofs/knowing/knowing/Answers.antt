use Rattle.std.proofs.Common.{map, ap, ◌∙◌}
use Rattle.std.specs.List.{flat_map}
use Rattle.anb_term.specs.View.{tree_of}
use Rattle.anb_lack.specs.Roots.{is_had}
use Rattle.anb_lack.specs.Roots.{knows, known_at}
use Rattle.anb_lack.proofs.Telling.{rows_next}
use Rattle.anb_lack.proofs.knowing.knowing.Goals as goal

pub loop-role-preserved : goal.loop-role-preserved
loop-role-preserved c =
    let p = c.args.protocol.now in
    let keys = map tree_of c.args.keys.now in
    let plan = ap (map tree_of) c.deref.ensures.value ∙ c.in_ok-known.ensures ∙ ap (flat_map known_at) (c.events.ensures ∙ c.in_ok-plan.ensures.plan) in
    rows_next c.loop-role.role keys (knows p) c.loop-role.rows.items c.push.new.self.items c.in_ok-row.row c.loop-role.invariant c.in_ok-push.ensures.items (c.in_ok-row.ensures ∙ ap (λ us. map (is_had us) keys) plan)
