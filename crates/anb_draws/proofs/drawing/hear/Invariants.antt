use Rattle.std.proofs.Common.{◌≡◌, ◌≤◌, length, All}
use Rattle.anb_base.specs.declared.TheConstants.{ARRIVAL}
use Rattle.anb_machine.specs.Machines.{gives}
use Rattle.anb_draws.proofs.drawing.hear.Given as goal

abbrev pub invariant-loop-arrival : goal.invariant-loop-arrival
invariant-loop-arrival l = record {
  gives : gives l.machine l.arrival-iterator.rest.items ≡ gives l.fn.machine l.fn.arrivals.items;
  short : All (λ arrival. length arrival ≤ ARRIVAL) l.arrival-iterator.rest.items;
}
