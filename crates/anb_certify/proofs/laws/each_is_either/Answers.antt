use Rattle.anb_certify.proofs.Either.{each_is_either}
use Rattle.anb_certify.proofs.laws.each_is_either.Goals as goal

pub returns : goal.returns
returns c = each_is_either c.verified_is_runnable.ensures
