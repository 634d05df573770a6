use Rattle.std.proofs.Common.{sym, ◌∙◌}
use Rattle.anb_mistakes.proofs.Weights.{later_large, this_large}
use Rattle.anb_mistakes.proofs.beyond.large_term.Goals as goal

pub returns-then-left-eq0 : goal.returns-then-left-eq0
returns-then-left-eq0 c =
    sym (this_large c.args.terms.now c.loop-i.i c.index-terms-i.result c.loop-i-test.true c.index-terms-i.is c.args.most c.left_of-left.result c.left_of-left.ensures c.if-left-eq0.true)
    ∙ c.loop-i.invariant

pub loop-i-preserved : goal.loop-i-preserved
loop-i-preserved c =
    later_large c.args.terms.now c.loop-i.i c.index-terms-i.result c.loop-i-test.true c.index-terms-i.is c.args.most c.left_of-left.result c.left_of-left.ensures c.if-left-eq0.false
    ∙ c.loop-i.invariant
