use Rattle.std.proofs.Common.{arith}
use Rattle.anb_lemmas.proofs.Lists.{item_at}
use Rattle.anb_c.proofs.compiling.code_of.Goals as goal

pub returns-in-Ok-clause-fits : goal.returns-in-Ok-clause-fits
returns-in-Ok-clause-fits c =
    c.in-Ok.ensures.fit.each c.args.role c.swap_remove.result
    (item_at c.in-Ok.codes.items c.args.role c.swap_remove.result (omega (arith, c.requires, c.in-Ok.ensures.fit.count)) c.swap_remove.ensures.value)
