use Rattle.anb_text.proofs.Loaded.{codes}
use Rattle.anb_text.proofs.laws.codes_are_unique.Goals as goal

pub returns : goal.returns
returns c = codes
