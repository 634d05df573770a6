use Rattle.anb_stage_commands.proofs.record.RecordLog.end.Goals as goal

pub returns-in-Err-clause-goes : goal.returns-in-Err-clause-goes
returns-in-Err-clause-goes g c = c.lose.ensures.goes _
