use Rattle.anb_transcript.proofs.OneReading.{reads_one}
use Rattle.anb_transcript.proofs.one_reading.Goals as goal

pub returns : goal.returns
returns c = reads_one
