use Rattle.anb_certify.proofs.Unique.{refusals_are_unique}
use Rattle.anb_certify.proofs.laws.refusals_are_unique.Goals as goal

pub returns : goal.returns
returns c = refusals_are_unique
