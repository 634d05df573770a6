use Rattle.anb_spoil.proofs.FalseTags.{seal_stays_shut, wrap_stays_shut}
use Rattle.anb_spoil.proofs.laws.false_tags_stay_shut.Goals as goal

pub returns : goal.returns
returns c = record { seals = seal_stays_shut; wraps = wrap_stays_shut }
