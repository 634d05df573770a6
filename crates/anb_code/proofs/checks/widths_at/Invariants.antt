use Rattle.std.proofs.Common.{◌≡◌, map, take, slice_index}
use Rattle.anb_code.proofs.checks.widths_at.Given as goal

abbrev pub invariant-loop-r : goal.invariant-loop-r
invariant-loop-r l = l.found.items ≡ map (slice_index l.widths) (take l.r-index l.registers)
