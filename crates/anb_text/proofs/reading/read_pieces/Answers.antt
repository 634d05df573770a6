use Rattle.std.proofs.Common.{rules}
use Rattle.anb_text.proofs.ReadFacts.{no_pieces}
use Rattle.anb_text.proofs.reading.read_pieces.Goals as goal

pub returns-in_default-clause-none : goal.returns-in_default-clause-none
returns-in_default-clause-none c = no_pieces c.args.text.now c.loop-rest.pieces.items c.loop-rest.rest.now c.loop-rest.invariant (search rules) (search rules)
