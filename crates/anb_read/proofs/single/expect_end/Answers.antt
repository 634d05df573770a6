use Rattle.std.proofs.Common.{sym, ap}
use Rattle.anb_syntax.specs.Words.{end, word_eqb}
use Rattle.anb_read.specs.Places.{toks}
use Rattle.anb_read.proofs.Passing.{passes}
use Rattle.anb_read.proofs.single.expect_end.Goals as goal

pub returns-in-End : goal.returns-in-End
returns-in-End c = passes end (toks c.args.text.now c.args.places.now) (toks c.args.text.now c.others.result.now) (ap (word_eqb end) (sym c.in-End.ensures)) (c.others.ensures c.args.text.now)
