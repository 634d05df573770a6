use Rattle.anb_host_recording.proofs.Transcribing.{are_transcripts}
use Rattle.anb_host_recording.proofs.laws.lines_are_transcripts.Goals as goal

pub returns : goal.returns
returns c = are_transcripts
