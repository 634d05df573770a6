use Rattle.anb_reason.proofs.Shutting.{shut_has_none}
use Rattle.anb_reason.proofs.laws.shut_has_none.Goals as goal

pub returns : goal.returns
returns c = shut_has_none c.every_recipe_composes.ensures
