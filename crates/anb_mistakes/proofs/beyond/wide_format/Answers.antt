use Rattle.std.proofs.Common.{sym, ◌∙◌}
use Rattle.anb_mistakes.proofs.Weights.{later_format, this_format}
use Rattle.anb_mistakes.proofs.beyond.wide_format.Goals as goal

pub returns-then-count-gt32 : goal.returns-then-count-gt32
returns-then-count-gt32 c =
    sym (this_format c.args.formats.now c.loop-i.i c.index-formats-i.result c.loop-i-test.true c.index-formats-i.is c.fields_in-count.result c.fields_in-count.ensures c.if-count-gt32.true)
    ∙ c.loop-i.invariant

pub loop-i-preserved : goal.loop-i-preserved
loop-i-preserved c =
    later_format c.args.formats.now c.loop-i.i c.index-formats-i.result c.loop-i-test.true c.index-formats-i.is c.fields_in-count.result c.fields_in-count.ensures c.if-count-gt32.false
    ∙ c.loop-i.invariant
