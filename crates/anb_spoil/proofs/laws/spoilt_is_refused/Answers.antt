use Rattle.anb_spoil.proofs.Respoilt.{spoilt_refused}
use Rattle.anb_spoil.proofs.laws.spoilt_is_refused.Goals as goal

pub returns : goal.returns
returns c = spoilt_refused
