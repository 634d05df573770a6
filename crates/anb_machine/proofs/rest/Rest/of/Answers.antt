use Rattle.anb_machine.proofs.Resting.{machine_is, rests}
use Rattle.anb_machine.proofs.rest.Rest.of.Goals as goal

pub returns-clause-rest : goal.returns-clause-rest
returns-clause-rest c = rests c.machine.inside.state c.machine.inside.last c.args.machine c.machine.view_is c.machine.invariant

pub returns-clause-same : goal.returns-clause-same
returns-clause-same c = machine_is c.machine.inside.state c.machine.inside.last c.args.machine c.machine.view_is c.machine.invariant
