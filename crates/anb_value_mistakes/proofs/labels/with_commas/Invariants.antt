use Rattle.std.proofs.Common.{◌≡◌, ◌++◌, drop}
use Rattle.anb_value_mistakes.specs.Mistakes.{with_commas}
use Rattle.anb_value_mistakes.proofs.labels.with_commas.Given as goal

abbrev pub invariant-loop-name : goal.invariant-loop-name
invariant-loop-name l = l.out.items ++ with_commas (drop l.name-index l.names) ≡ with_commas l.names
