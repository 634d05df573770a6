use Rattle.anb_text.proofs.Unique.{files}
use Rattle.anb_text.proofs.laws.files_are_unique.Goals as goal

pub returns : goal.returns
returns c = files
