use Rattle.std.proofs.Common.{◌≤◌, length, take, true, vec_capacity}
use Rattle.anb_machine.specs.Keeping.{AreOver}
use Rattle.anb_machine.proofs.registers.initial_registers.Given as goal

abbrev pub invariant-loop-r : goal.invariant-loop-r
invariant-loop-r l = record {
  values : AreOver l.last_uses 0 (λ r. true) (take l.r l.init) l.table.items;
  room : length l.last_uses ≤ vec_capacity l.table;
}
