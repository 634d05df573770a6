use Rattle.anb_text.proofs.ReadFacts.{prefix_cases}
use Rattle.anb_text.proofs.reading.after_prefix.Goals as goal

pub returns : goal.returns
returns c = prefix_cases c.args.prefix.now c.args.text.now c.strip_prefix.result c.strip_prefix.ensures.cases
