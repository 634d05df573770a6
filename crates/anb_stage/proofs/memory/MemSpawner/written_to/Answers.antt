use Rattle.std.proofs.Common.{arith}
use Rattle.anb_stage.proofs.memory.MemSpawner.written_to.Goals as goal

pub returns-clause-most : goal.returns-clause-most
returns-clause-most c = let most = c.len-2.ensures.most in omega (arith, most)
