use Rattle.anb_transcript.proofs.OneReplay.{replays_one}
use Rattle.anb_transcript.proofs.one_replay.Goals as goal

pub returns : goal.returns
returns c = replays_one
