use Rattle.std.proofs.Common.{◌≡◌, drop}
use Rattle.anb_index.specs.Places.{among}
use Rattle.anb_mistakes.proofs.items.among.Given as goal

abbrev pub invariant-loop-each : goal.invariant-loop-each
invariant-loop-each l = among (drop l.each-index l.names) l.name ≡ among l.names l.name
