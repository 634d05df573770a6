use Rattle.std.proofs.Common.{rules, arith}
use Rattle.anb_seal.proofs.Masked.{one_word_on, one_word_written}
use Rattle.anb_seal.proofs.stream.fill.Goals as goal

pub loop-i-preserved : goal.loop-i-preserved
loop-i-preserved c =
    let i = c.loop-i.i in
    let start = c.args.words.now in
    record {
      words = one_word_on start c.loop-i.words c.next_word.new.self c.next_word.result i c.next_word.ensures c.loop-i.invariant.words (omega (arith, c.requires.near));
      bytes = one_word_written start c.loop-i.words c.next_word.new.self c.next_word.result i _ c.loop-i.bytes c.copy_from_slice.new.self c.next_word.ensures c.loop-i.invariant.words c.loop-i.invariant.bytes (search rules) (omega arith);
    }
