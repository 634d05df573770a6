-- One more check.
use Rattle.std.proofs.Common.{[], ◌∷◌, map, ap, ◌∙◌, arith}
use Rattle.anb_term.proofs.Lists.{map-append}
use Rattle.anb_accept.specs.Equations.{equation_of}
use Rattle.anb_unify.specs.Views.{equation_value}
use Rattle.anb_unify.proofs.Steps.{mapped_next}
use Rattle.anb_accept.proofs.equation.put_checks.Goals as goal

pub loop-check-preserved : goal.loop-check-preserved
loop-check-preserved c =
    mapped_next (equation_of c.args.names) c.args.checks.now c.loop-check.check-index c.check-item.result (map equation_value c.args.out.now.items) (map equation_value c.loop-check.out.items) _ (equation_value c.in_ok-equation.equation)
    c.loop-check.invariant (omega arith) c.check-item.is (ap (map equation_value) c.in_ok-push.ensures.items ∙ map-append equation_value c.loop-check.out.items (c.in_ok-equation.equation ∷ [])) c.in_ok-equation.ensures
