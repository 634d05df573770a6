use Rattle.std.proofs.Common.{sym}
use Rattle.anb_syntax.specs.Words.{sign}
use Rattle.anb_read.specs.Places.{toks}
use Rattle.anb_read.proofs.Passing.{passes}
use Rattle.anb_read.proofs.single.expect_sign.Goals as goal

pub returns-then-is_sign : goal.returns-then-is_sign
returns-then-is_sign c = passes (sign c.args.c) (toks c.args.text.now c.args.places.now) (toks c.args.text.now c.others.result.now) (sym c.if-is_sign.ensures) (c.others.ensures c.args.text.now)
