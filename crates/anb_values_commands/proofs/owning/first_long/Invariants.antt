use Rattle.std.proofs.Common.{◌≡◌, drop}
use Rattle.anb_values_commands.specs.RoleValuesCommand.{first_long}
use Rattle.anb_values_commands.proofs.owning.first_long.Given as goal

abbrev pub invariant-loop-i : goal.invariant-loop-i
invariant-loop-i l = first_long (drop l.i l.labels) (drop l.i l.values) ≡ first_long l.labels l.values
