use Rattle.std.proofs.Common.{◌≡◌, ◌++◌, drop}
use Rattle.anb_value_mistakes.specs.Mistakes.{missing, with_commas}
use Rattle.anb_value_mistakes.proofs.labels.missing.Given as goal

abbrev pub invariant-loop-name : goal.invariant-loop-name
invariant-loop-name l = l.out.items ++ with_commas (missing (drop l.name-index l.names) l.labels) ≡ with_commas (missing l.names l.labels)
