use Rattle.std.proofs.Common.{◌≡◌, ◌+◌, ◌-◌, drop, length}
use Rattle.std.specs.List.{range_with_len}
use Rattle.std.specs.Str.{bytes_eq}
use Rattle.anb_code.proofs.checks.are_next.Given as goal

abbrev pub invariant-loop-k : goal.invariant-loop-k
invariant-loop-k l =
    bytes_eq (drop l.k l.registers) (range_with_len (l.first + l.k) (length l.registers - l.k)) ≡ bytes_eq l.registers (range_with_len l.first (length l.registers))
