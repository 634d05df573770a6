use Rattle.anb_machine.specs.Machines.{left}
use Rattle.anb_branch.specs.Stems.{AreShort}
use Rattle.anb_branch.proofs.Again.{Again}
use Rattle.anb_branch.proofs.stem.run_again.Given as goal

abbrev pub invariant-turns : goal.invariant-turns
invariant-turns l = record {
  again : Again l.fn.machine l.machine l.fn.past.items l.arrivals.rest.items;
  short : AreShort l.arrivals.rest.items;
}

abbrev pub decreases-turns : goal.decreases-turns
decreases-turns l = left l.machine
