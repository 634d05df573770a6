use Rattle.anb_read.specs.Places.{toks}
use Rattle.anb_read.proofs.Passing.{passes_suite}
use Rattle.anb_read.proofs.single.suite.Goals as goal

pub returns-in-Some : goal.returns-in-Some
returns-in-Some c = passes_suite c.in-Some.suite (toks c.args.text.now c.args.places.now) (toks c.args.text.now c.others.result.now) c.in-Some.ensures (c.others.ensures c.args.text.now)
