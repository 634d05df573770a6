-- One more term.
use Rattle.std.proofs.Common.{◌<◌, map, take, ap, length, arith}
use Rattle.anb_lemmas.proofs.Lists.{item_at}
use Rattle.anb_term.specs.View.{tree_of}
use Rattle.anb_unify.specs.Views.{equation_value}
use Rattle.anb_unify.specs.Solving.{term_at, terms_of_equations}
use Rattle.anb_unify.specs.Growing.{HasGrown}
use Rattle.anb_unify.proofs.Steps.{sides_more, at_put, grown_none, grown_on}
use Rattle.anb_unify.proofs.solving.put_sides.Goals as goal

pub loop-equation-init : goal.loop-equation-init
loop-equation-init c = record { at = ap (map (term_at c.args.pool.now)) c.new-ids.ensures.items; grown = grown_none c.args.pool.now }

pub loop-equation-preserved : goal.loop-equation-preserved
loop-equation-preserved c =
    let qs = c.args.equations.now in
    let i = c.loop-equation.equation-index in
    let within : i < length qs = omega arith in
    let grown : HasGrown c.loop-equation.pool c.put_term.new.self = record { more = c.in_ok-id.ensures.more.more; is = c.in_ok-id.ensures.more.is } in
    record {
      at = at_put c.loop-equation.pool c.put_term.new.self c.loop-equation.ids.items c.push.new.self.items (terms_of_equations (map equation_value (take i qs))) _ c.in_ok-id.id (tree_of c.equation-item.result.term)
          grown c.loop-equation.invariant.at c.in_ok-id.ensures.stored c.in_ok-push.ensures.items (sides_more qs i c.equation-item.result (item_at qs i c.equation-item.result within c.equation-item.is));
      grown = grown_on c.args.pool.now c.loop-equation.pool c.put_term.new.self c.loop-equation.invariant.grown grown;
    }
