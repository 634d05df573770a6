use Rattle.std.proofs.Common.{[], arith}
use Rattle.anb_read.proofs.GoingOn.{counted, stopped, all_passed, before_is}
use Rattle.anb_read.proofs.expecting.before.Goals.{then-earlier-test+else-at, else-earlier-test}
use Rattle.anb_read.proofs.expecting.before.Goals as goal

pub earlier-preserved : goal.earlier-preserved
earlier-preserved c = record {
  within = omega arith;
  passed = counted c.args.at c.args.places.now c.earlier.n _ c.at.result c.earlier-test.true (c.at.ensures []) c.if-at.true c.earlier.invariant.passed;
}

pub returns : goal.returns
returns c text = before_is text c.args.at c.args.places.now c.earlier.n (elim c.earlier-test.branch [
  | then-earlier-test+else-at w ↦ stopped c.args.at c.args.places.now c.earlier.n _ w.at.result w.earlier-test.true (w.at.ensures []) w.if-at.false c.earlier.invariant.passed
  | else-earlier-test w ↦ all_passed c.args.at c.args.places.now c.earlier.n w.earlier-test.false c.earlier.invariant.passed
])
