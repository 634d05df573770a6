use Rattle.std.proofs.Common.{◌≡◌, ◌+◌, ◌<◌, ◌^◌, length}
use Rattle.anb_base.specs.declared.TheConstants.{ARRIVAL}
use Rattle.anb_machine.specs.Machines.{gives}
use Rattle.anb_partner.specs.Steps.{GoesOnBy}
use Rattle.anb_partner.proofs.talking.go_on.Given as goal

abbrev pub invariant-loop : goal.invariant-loop
invariant-loop g l = record {
  goes_on : GoesOnBy l.counter (gives l.fn.machine) (gives l.machine) l.fn.lines.items l.lines.items (g.W.Wire.state l.fn.child) (g.W.Wire.state l.child);
  few : length l.lines.items + 1 < 2 ^ 32;
  room : length l.buffer ≡ ARRIVAL;
}
