use Rattle.std.proofs.Common.{◌≡◌, length}
use Rattle.anb_stage_commands.specs.Asking.{casts_of}
use Rattle.anb_stage_commands.specs.Words.{program_of}
use Rattle.anb_stage_commands.proofs.casts.program_of.Given as goal

abbrev pub invariant-loop-rest : goal.invariant-loop-rest
invariant-loop-rest l = program_of (casts_of l.rest) l.role ≡ program_of (casts_of l.fn.casts) l.role

abbrev pub decreases-loop-rest : goal.decreases-loop-rest
decreases-loop-rest l = length l.rest
