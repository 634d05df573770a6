use Rattle.std.proofs.Common.{◌≡◌, take, vec_capacity}
use Rattle.anb_code.specs.Uses.{is_among}
use Rattle.anb_machine.specs.Keeping.{AreOver}
use Rattle.anb_machine.proofs.registers.drop_each.Given as goal

abbrev pub invariant-loop-r : goal.invariant-loop-r
invariant-loop-r l = record {
  dropped : AreOver l.last_uses l.done (is_among (take l.r-index l.which)) l.initial.registers.items l.registers.items;
  capacity : vec_capacity l.registers ≡ vec_capacity l.initial.registers;
}
