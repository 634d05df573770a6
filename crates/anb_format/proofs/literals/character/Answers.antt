use Rattle.std.proofs.Common.{arith}
use Rattle.anb_format.proofs.Characters.{plain}
use Rattle.anb_format.proofs.literals.character.Goals as goal

pub returns-in-32-to-126-clause-some : goal.returns-in-32-to-126-clause-some
returns-in-32-to-126-clause-some c = plain c.args.text.now (omega arith) (omega arith) (omega arith) (omega arith) (omega arith)
