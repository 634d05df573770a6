-- One more entry.
use Rattle.std.proofs.Common.{[], ◌∷◌, map, take, arith, length-take-le}
use Rattle.anb_accept.specs.Equations.{own_equations}
use Rattle.anb_unify.specs.Views.{equation_value}
use Rattle.anb_accept.proofs.Steps.{own_snoc}
use Rattle.anb_unify.proofs.Steps.{flat_next}
use Rattle.anb_accept.proofs.equation.put_own.Goals as goal

pub loop-i-preserved : goal.loop-i-preserved
loop-i-preserved c =
    let es = c.args.entries.now in
    let i = c.loop-i.i in
    let e = c.index-entries-i.result in
    flat_next (own_equations c.args.heard.now 0) es i e (map equation_value c.args.out.now.items) (map equation_value c.loop-i.out.items) (map equation_value c.put_if_own.new.out.items) (own_equations c.args.heard.now i (e ∷ []))
    c.loop-i.invariant (omega arith) c.index-entries-i.is (own_snoc c.args.heard.now 0 (take i es) e i (omega (arith, length-take-le i es (omega arith)))) c.in_ok-put_if_own.ensures
