use Rattle.std.proofs.Common.{ap, arith, length}
use Rattle.anb_stage.proofs.Lines.{lines_most}
use Rattle.anb_stage.proofs.memory.left_behind.Goals as goal

pub returns-then-size-left-clause-none : goal.returns-then-size-left-clause-none
returns-then-size-left-clause-none c =
    let most = lines_most c.args.words.now c.loop-word.word-index c.word-item.result c.loop-word-test.true c.word-item.is in
    let size = ap length c.as_str-size.ensures in
    omega (arith, most, size, c.loop-word.invariant, c.if-size-left.true)
