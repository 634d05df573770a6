use Rattle.anb_run.proofs.recording.record.Goals as goal

pub returns-in-Play-clause-completes : goal.returns-in-Play-clause-completes
returns-in-Play-clause-completes g c = rw c.in-Play.is c.play_into.ensures.completes

pub returns-in-Enact-clause-completes : goal.returns-in-Enact-clause-completes
returns-in-Enact-clause-completes g c = rw c.in-Enact.is c.enact_into.ensures.completes

pub returns-in-Branch-clause-completes : goal.returns-in-Branch-clause-completes
returns-in-Branch-clause-completes g c = rw c.in-Branch.is c.branch_into.ensures.completes

pub returns-in-Host-clause-completes : goal.returns-in-Host-clause-completes
returns-in-Host-clause-completes g c = rw c.in-Host.is c.host_into.ensures.completes

pub returns-in-Host-clause-does : goal.returns-in-Host-clause-does
returns-in-Host-clause-does g c = rw c.in-Host.is c.host_into.ensures.does

pub returns-in-Host-clause-faults : goal.returns-in-Host-clause-faults
returns-in-Host-clause-faults g c = rw c.in-Host.is c.host_into.ensures.faults
