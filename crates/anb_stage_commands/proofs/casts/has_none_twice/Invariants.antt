use Rattle.std.proofs.Common.{◌≡◌, length}
use Rattle.anb_stage_commands.specs.Asking.{casts_of}
use Rattle.anb_stage_commands.specs.Words.{has_none_twice}
use Rattle.anb_stage_commands.proofs.casts.has_none_twice.Given as goal

abbrev pub invariant-loop-rest : goal.invariant-loop-rest
invariant-loop-rest l = has_none_twice (casts_of l.rest) ≡ has_none_twice (casts_of l.fn.casts)

abbrev pub decreases-loop-rest : goal.decreases-loop-rest
decreases-loop-rest l = length l.rest
