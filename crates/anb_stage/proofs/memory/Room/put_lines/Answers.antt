use Rattle.std.proofs.Common.{ap, arith, length, take, length-append}
use Rattle.anb_stage.specs.Children.{lines}
use Rattle.anb_stage.proofs.Lines.{lines_most}
use Rattle.anb_stage.proofs.memory.Room.put_lines.Goals as goal

pub put-requires : goal.put-requires
put-requires c =
    let most = lines_most c.args.words.now c.loop-word.word-index c.word-item.result c.loop-word-test.true c.word-item.is in
    let before = ap length c.loop-word.invariant.0 in
    omega (
      arith,
      most,
      before,
      length-append c.args.self.now.bytes.items (lines (take c.loop-word.word-index c.args.words.now)),
      c.loop-word.invariant.1,
      c.requires,
      ap length c.as_bytes.ensures.value,
      ap length c.as_str.ensures,
    )

pub put-requires-in-loop-word : goal.put-requires-in-loop-word
put-requires-in-loop-word c =
    let most = lines_most c.args.words.now c.loop-word.word-index c.word-item.result c.loop-word-test.true c.word-item.is in
    let before = ap length c.loop-word.invariant.0 in
    let put = ap length c.put.ensures.put in
    omega (
      arith,
      most,
      before,
      length-append c.args.self.now.bytes.items (lines (take c.loop-word.word-index c.args.words.now)),
      c.loop-word.invariant.1,
      c.requires,
      put,
      length-append c.loop-word.self.bytes.items c.as_bytes.result.now,
      c.put.ensures.limit,
      ap length c.as_bytes.ensures.value,
      ap length c.as_str.ensures,
    )
