use Rattle.std.proofs.Common.{◌+◌, ◌++◌, ◌∙◌, ap, drop}
use Rattle.anb_value_mistakes.specs.Mistakes.{faulty_texts}
use Rattle.anb_value_mistakes.proofs.Lines.{faulty_more}
use Rattle.anb_value_mistakes.proofs.telling.put_faulty_texts.Goals as goal

pub loop-i-preserved : goal.loop-i-preserved
loop-i-preserved c =
    let i = c.loop-i.i in
    let reads = c.args.reads.now in
    ap (λ l. l ++ faulty_texts c.args.name.now (i + 1 + 1) (drop (i + 1) reads)) c.in_ok-put_faulty.ensures
    ∙ faulty_more c.args.name.now reads i c.index-reads-i.result c.loop-i-test.true c.index-reads-i.is c.loop-i.out.items
    ∙ c.loop-i.invariant
