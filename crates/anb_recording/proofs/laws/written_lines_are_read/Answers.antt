use Rattle.anb_recording.proofs.Reading.{read_back}
use Rattle.anb_recording.proofs.laws.written_lines_are_read.Goals as goal

pub returns : goal.returns
returns c = λ lines all. read_back lines all
