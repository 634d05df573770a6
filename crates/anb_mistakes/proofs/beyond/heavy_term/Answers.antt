use Rattle.std.proofs.Common.{◌-◌, refl, sym, ◌∙◌, arith}
use Rattle.anb_mistakes.proofs.Weights.{later_heavy, this_heavy}
use Rattle.anb_mistakes.proofs.beyond.heavy_term.Goals as goal

pub returns-then-rest-eq0 : goal.returns-then-rest-eq0
returns-then-rest-eq0 c =
    sym (this_heavy c.args.terms.now c.loop-i.i c.index-terms-i.result c.loop-i-test.true c.index-terms-i.is c.loop-i.left c.left_of-rest.result c.left_of-rest.ensures c.if-rest-eq0.true)
    ∙ c.loop-i.invariant.so_far

pub loop-i-preserved : goal.loop-i-preserved
loop-i-preserved c = record {
  few = omega (arith, c.loop-i.invariant.few, c.left_of-rest.ensures, c.if-rest-eq0.false);
  so_far =
      later_heavy c.args.terms.now c.loop-i.i c.index-terms-i.result c.loop-i-test.true c.index-terms-i.is c.loop-i.left c.left_of-rest.result c.left_of-rest.ensures c.if-rest-eq0.false
      (c.left_of-rest.result - 1) refl
      ∙ c.loop-i.invariant.so_far;
}
