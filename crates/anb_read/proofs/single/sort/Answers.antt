use Rattle.anb_read.specs.Places.{toks}
use Rattle.anb_read.proofs.Passing.{passes_sort}
use Rattle.anb_read.proofs.single.sort.Goals as goal

pub returns-in-Some : goal.returns-in-Some
returns-in-Some c = passes_sort c.in-Some.sort (toks c.args.text.now c.args.places.now) (toks c.args.text.now c.others.result.now) c.in-Some.ensures (c.others.ensures c.args.text.now)
