use Rattle.anb_text.proofs.Unique.{none}
use Rattle.anb_text.proofs.laws.none_is_both.Goals as goal

pub returns : goal.returns
returns c = none
