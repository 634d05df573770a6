-- One more number.
use Rattle.std.proofs.Common.{[], ◌∷◌, ◌++◌, map, sym, ap, ◌∙◌}
use Rattle.anb_term.proofs.Lists.{map-append}
use Rattle.anb_intern.specs.declared.node.NodeId.{NodeId}
use Rattle.anb_unify.proofs.Steps.{range_more}
use Rattle.anb_unify.proofs.solving.themselves.Goals as goal

pub loop-i-preserved : goal.loop-i-preserved
loop-i-preserved c =
    let i = c.loop-i.i in
    ap (map (λ (p : NodeId). p.0)) c.in_ok-push.ensures.items ∙ map-append (λ (p : NodeId). p.0) c.loop-i.parents.items (record { 0 = i } ∷ []) ∙ ap (λ l. l ++ i ∷ []) c.loop-i.invariant ∙ sym (range_more i)
