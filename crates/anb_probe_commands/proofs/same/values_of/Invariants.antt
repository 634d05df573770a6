use Rattle.std.proofs.Common.{◌≡◌, ◌++◌, drop}
use Rattle.anb_probe_commands.specs.Reports.{values_of}
use Rattle.anb_probe_commands.proofs.same.values_of.Given as goal

abbrev pub invariant-loop-draws : goal.invariant-loop-draws
invariant-loop-draws l = l.values.items ++ values_of l.name (drop l.draws-index l.told) ≡ values_of l.name l.told
