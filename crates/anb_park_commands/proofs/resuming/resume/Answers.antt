use Rattle.anb_park_commands.proofs.resuming.resume.Goals as goal

pub returns-clause-does : goal.returns-clause-does
returns-clause-does g c = c.go_on.ensures.does

pub returns-clause-completes : goal.returns-clause-completes
returns-clause-completes g c = c.go_on.ensures.completes

pub returns-clause-faults : goal.returns-clause-faults
returns-clause-faults g c = c.go_on.ensures.faults

pub returns-clause-reported : goal.returns-clause-reported
returns-clause-reported g c = c.go_on.ensures.reported

pub returns-clause-fetches : goal.returns-clause-fetches
returns-clause-fetches g c = c.go_on.ensures.fetches

pub returns-clause-reached : goal.returns-clause-reached
returns-clause-reached g c = c.go_on.ensures.reached

pub returns-clause-touches : goal.returns-clause-touches
returns-clause-touches g c = c.go_on.ensures.touches
