use Rattle.anb_spoil.proofs.FalseTags.{seal_holds, wrap_holds}
use Rattle.anb_spoil.proofs.laws.false_tags_hold_the_message.Goals as goal

pub returns : goal.returns
returns c = record { seals = seal_holds; wraps = wrap_holds }
