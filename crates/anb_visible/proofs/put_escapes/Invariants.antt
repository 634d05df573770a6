use Rattle.std.proofs.Common.{◌≡◌, ◌++◌, drop}
use Rattle.std.specs.List.{flat_map}
use Rattle.anb_visible.specs.Visible.{escaped}
use Rattle.anb_visible.proofs.put_escapes.Given as goal

abbrev pub invariant-loop-b : goal.invariant-loop-b
invariant-loop-b l = l.out.items ++ flat_map escaped (drop l.b-index l.run) ≡ l.fn.out.items ++ flat_map escaped l.run
