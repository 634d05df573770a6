use Rattle.anb_record_commands.proofs.Replayed.{sessions_replay}
use Rattle.anb_record_commands.proofs.laws.recorded_sessions_replay.Goals as goal

pub returns : goal.returns
returns c = sessions_replay c.written_lines_are_read.ensures
