use Rattle.std.proofs.Common.{◌≡◌}
use Rattle.anb_machine.specs.Machines.{left}
use Rattle.anb_park.proofs.Following.{Along}
use Rattle.anb_park.proofs.resuming.run_over.Given as goal

abbrev pub invariant-turns : goal.invariant-turns
invariant-turns l = Along l.fn.machine l.machine l.fn.frames l.rest × (l.machine.code ≡ l.fn.machine.code)

abbrev pub decreases-turns : goal.decreases-turns
decreases-turns l = left l.machine
