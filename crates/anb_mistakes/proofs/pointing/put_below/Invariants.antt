use Rattle.std.proofs.Common.{◌≡◌, ◌++◌, drop}
use Rattle.std.specs.List.{flat_map}
use Rattle.anb_mistakes.specs.Pointing.{below}
use Rattle.anb_mistakes.proofs.pointing.put_below.Given as goal

abbrev pub invariant-loop-b : goal.invariant-loop-b
invariant-loop-b l = l.out.items ++ flat_map below (drop l.b-index l.before) ≡ l.fn.out.items ++ flat_map below l.before
