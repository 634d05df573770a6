use Rattle.anb_record_commands.proofs.Replayed.{arms_replay}
use Rattle.anb_record_commands.proofs.laws.recorded_arms_replay.Goals as goal

pub returns : goal.returns
returns c = arms_replay c.written_lines_are_read.ensures c.arms_are_narrations.ensures c.arms_know_alike.ensures
