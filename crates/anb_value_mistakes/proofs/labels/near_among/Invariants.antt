use Rattle.std.proofs.Common.{◌≡◌, ◌++◌, drop}
use Rattle.anb_mistakes.specs.Near.{near_among}
use Rattle.anb_value_mistakes.proofs.labels.near_among.Given as goal

abbrev pub invariant-loop-name : goal.invariant-loop-name
invariant-loop-name l = l.out.items ++ near_among (drop l.name-index l.names) l.label ≡ near_among l.names l.label
