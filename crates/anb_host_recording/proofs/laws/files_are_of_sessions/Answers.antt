use Rattle.anb_host_recording.proofs.Filing.{are_of_sessions}
use Rattle.anb_host_recording.proofs.laws.files_are_of_sessions.Goals as goal

pub returns : goal.returns
returns c = are_of_sessions
