use Rattle.std.proofs.Common.{◌∙◌, sym}
use Rattle.anb_syntax.specs.Views.{tok_of}
use Rattle.std.proofs.Common.{map}
use Rattle.anb_mistakes.proofs.Passed.{in_later, in_this}
use Rattle.anb_mistakes.proofs.limits.term_spot.Goals as goal

pub loop-i-preserved : goal.loop-i-preserved
loop-i-preserved c =
    in_later c.args.knows.now c.loop-i.i c.index-knows-i.result c.loop-i-test.true c.index-knows-i.is c.loop-i.left (map (tok_of c.args.text.now) c.args.tokens.now) c.terms_in-count.result c.terms_in-count.ensures
    c.if-left-count.false ∙ c.loop-i.invariant
