use Rattle.anb_record_commands.proofs.Replayed.{recorded_replays}
use Rattle.anb_record_commands.proofs.laws.recorded_plays_replay.Goals as goal

pub returns : goal.returns
returns c = recorded_replays c.written_lines_are_read.ensures
