use Rattle.std.proofs.Common.{arith}
use Rattle.std.proofs.lemmas.List.{length-map}
use Rattle.anb_text.specs.Reading.{texts}
use Rattle.anb_text.proofs.ReadFacts.{head_many}
use Rattle.anb_text.proofs.reading.read_head.Goals as goal

pub returns-in-len3-up : goal.returns-in-len3-up
returns-in-len3-up c = head_many (texts c.args.words.now) (omega (arith, c.in-len3-up.len_at_least, length-map c.args.words.now (λ w. w.now)))
