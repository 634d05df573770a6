use Rattle.anb_text.proofs.ReadFacts.{label_test}
use Rattle.anb_text.proofs.reading.is_some_label.Goals as goal

pub returns : goal.returns
returns c = label_test c.is_label.result c.args.word.now c.is_label.ensures
