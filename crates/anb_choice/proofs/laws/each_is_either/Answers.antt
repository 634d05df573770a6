use Rattle.anb_choice.proofs.Lawfully.{either_of}
use Rattle.anb_choice.proofs.laws.each_is_either.Goals as goal

pub returns : goal.returns
returns c = either_of c.each_is_either.ensures c.faultless_is_lawful.ensures
