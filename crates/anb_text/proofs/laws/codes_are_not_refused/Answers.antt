use Rattle.anb_text.proofs.Refused.{code_not_refused}
use Rattle.anb_text.proofs.laws.codes_are_not_refused.Goals as goal

pub returns : goal.returns
returns c = code_not_refused
