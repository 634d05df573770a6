-- One more variable.
use Rattle.std.proofs.Common.{◌+◌, ap, ◌∙◌, Some}
use Rattle.anb_term.specs.Tree.{leaf}
use Rattle.anb_unify.specs.Solving.{first_variables}
use Rattle.anb_unify.specs.Growing.{HasGrown}
use Rattle.anb_unify.proofs.Steps.{variables_more, at_put}
use Rattle.anb_unify.proofs.solving.put_variables.Goals as goal

pub loop-i-preserved : goal.loop-i-preserved
loop-i-preserved c =
    let i = c.loop-i.i in
    let grown : HasGrown c.loop-i.pool c.put_term.new.self = record { more = c.in_ok-id.ensures.more.more; is = c.in_ok-id.ensures.more.is } in
    at_put c.loop-i.pool c.put_term.new.self c.loop-i.ids.items c.push.new.self.items (first_variables c.args.names i) _ c.in_ok-id.id (leaf (c.args.names + i))
    grown c.loop-i.invariant (c.in_ok-id.ensures.stored ∙ ap (λ v. Some (leaf v)) c.in_ok-variable.ensures) c.in_ok-push.ensures.items (variables_more c.args.names i)
