use Rattle.std.proofs.Common.{◌≡◌, ◌++◌, drop}
use Rattle.std.specs.List.{flat_map}
use Rattle.anb_mistakes.specs.Near.{hint}
use Rattle.anb_mistakes.proofs.mends.put_near_among.Given as goal

abbrev pub invariant-loop-each : goal.invariant-loop-each
invariant-loop-each l = l.out.items ++ flat_map (hint l.name) (drop l.each-index l.names) ≡ l.fn.out.items ++ flat_map (hint l.name) l.names
