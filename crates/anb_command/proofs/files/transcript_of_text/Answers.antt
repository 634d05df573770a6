use Rattle.anb_command.proofs.Transcripts.{read_bytes}
use Rattle.anb_command.proofs.files.transcript_of_text.Goals as goal

pub returns-in-Ok-clause-bytes : goal.returns-in-Ok-clause-bytes
returns-in-Ok-clause-bytes c = read_bytes c.args.text.now c.in-Ok.transcript c.in-Ok.ensures.reads
