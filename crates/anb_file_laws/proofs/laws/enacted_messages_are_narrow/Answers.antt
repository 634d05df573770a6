use Rattle.anb_file_laws.proofs.Narrow.{enacted_messages_are_narrow}
use Rattle.anb_file_laws.proofs.laws.enacted_messages_are_narrow.Goals as goal

pub returns : goal.returns
returns c = enacted_messages_are_narrow c.runs_send_within.ensures
