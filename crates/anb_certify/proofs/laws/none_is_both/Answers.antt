use Rattle.anb_certify.proofs.Unique.{none_is_both}
use Rattle.anb_certify.proofs.laws.none_is_both.Goals as goal

pub returns : goal.returns
returns c = none_is_both
