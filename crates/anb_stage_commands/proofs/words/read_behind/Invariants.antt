use Rattle.std.proofs.Common.{length}
use Rattle.anb_stage_commands.proofs.Behind.{IsReadTo}
use Rattle.anb_stage_commands.proofs.words.read_behind.Given as goal

abbrev pub invariant-loop-rest : goal.invariant-loop-rest
invariant-loop-rest l = IsReadTo l.fn.words l.count l.rest

abbrev pub decreases-loop-rest : goal.decreases-loop-rest
decreases-loop-rest l = length l.rest
