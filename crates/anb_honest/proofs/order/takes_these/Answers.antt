use Rattle.std.proofs.Common.{◌≡◌, length, arith, sym}
use Rattle.std.proofs.lemmas.Option.{get_or_from_slice_get}
use Rattle.anb_code.specs.Taking.{take_texts}
use Rattle.anb_honest.proofs.Comparing.{both_next}
use Rattle.anb_honest.proofs.order.takes_these.Goals as goal

pub loop-i-preserved : goal.loop-i-preserved
loop-i-preserved c =
    let xs = take_texts c.args.code.now.instrs in
    let ys = c.args.texts.now in
    let x = c.take_text.result.now in
    let count : length xs ≡ length ys = omega (arith, c.takes.ensures, c.if-takes-texts.false) in
    both_next xs ys c.loop-i.i x c.index-texts-i.result (omega (arith, count)) (omega arith) (sym (get_or_from_slice_get xs c.loop-i.i x x (sym c.take_text.ensures))) c.index-texts-i.is
    (c.same_text.ensures.0 c.if-not-same_text.false) c.loop-i.invariant
