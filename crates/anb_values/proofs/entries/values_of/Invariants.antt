use Rattle.std.proofs.Common.{◌≡◌, map, Some, take, drop}
use Rattle.anb_values.specs.Fit.{missing, value_of}
use Rattle.anb_values.proofs.entries.values_of.Given as goal

abbrev pub invariant-loop-name : goal.invariant-loop-name
invariant-loop-name l = record {
  missing : missing (drop l.name-index l.names) l.entries ≡ missing l.names l.entries;
  values : map Some l.values.items ≡ map (value_of l.entries) (take l.name-index l.names);
}
