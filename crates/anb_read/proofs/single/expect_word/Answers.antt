use Rattle.std.proofs.Common.{sym}
use Rattle.anb_syntax.specs.Words.{name}
use Rattle.anb_read.specs.Places.{toks}
use Rattle.anb_read.proofs.Passing.{passes}
use Rattle.anb_read.proofs.single.expect_word.Goals as goal

pub returns-then-is_word : goal.returns-then-is_word
returns-then-is_word c = passes (name c.args.wanted.now) (toks c.args.text.now c.args.places.now) (toks c.args.text.now c.others.result.now) (sym c.if-is_word.ensures) (c.others.ensures c.args.text.now)
