use Rattle.std.proofs.Common.{◌≡◌, length}
use Rattle.anb_stage_commands.specs.Asking.{casts_of}
use Rattle.anb_stage_commands.specs.CastRoles.{first_absent}
use Rattle.anb_stage_commands.proofs.casts.absent_role.Given as goal

abbrev pub invariant-loop-rest : goal.invariant-loop-rest
invariant-loop-rest l = first_absent l.protocol (casts_of l.rest) ≡ first_absent l.protocol (casts_of l.fn.casts)

abbrev pub decreases-loop-rest : goal.decreases-loop-rest
decreases-loop-rest l = length l.rest
