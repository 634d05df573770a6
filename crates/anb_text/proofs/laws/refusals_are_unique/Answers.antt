use Rattle.anb_text.proofs.Refused.{once}
use Rattle.anb_text.proofs.laws.refusals_are_unique.Goals as goal

pub returns : goal.returns
returns c = once
