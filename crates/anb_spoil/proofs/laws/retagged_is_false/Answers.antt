use Rattle.anb_spoil.proofs.FalseTags.{retagged_seal, retagged_wrap}
use Rattle.anb_spoil.proofs.laws.retagged_is_false.Goals as goal

pub returns : goal.returns
returns c = record { seals = retagged_seal; wraps = retagged_wrap }
