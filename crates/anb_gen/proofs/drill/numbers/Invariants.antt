use Rattle.std.proofs.Common.{◌≡◌, map}
use Rattle.std.specs.List.{range_with_len}
use Rattle.anb_gen.specs.Drill.{number_name}
use Rattle.anb_gen.proofs.drill.numbers.Given as goal

abbrev pub invariant-loop-i : goal.invariant-loop-i
invariant-loop-i l = l.names.items ≡ map number_name (range_with_len 0 l.i)
