use Rattle.std.proofs.Common.{◌≡◌, ◌&&◌, nat_le, nat_lt, vec_capacity}
use Rattle.anb_machine.specs.Keeping.{AreOver}
use Rattle.anb_machine.proofs.registers.drop_from.Given as goal

abbrev pub invariant-loop-r : goal.invariant-loop-r
invariant-loop-r l = record {
  dropped : AreOver l.last_uses l.done (λ k. nat_le l.from k && nat_lt k l.r) l.initial.registers.items l.registers.items;
  capacity : vec_capacity l.registers ≡ vec_capacity l.initial.registers;
}
