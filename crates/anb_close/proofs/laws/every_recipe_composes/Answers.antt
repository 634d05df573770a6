use Rattle.anb_close.proofs.Composing.{every}
use Rattle.anb_close.proofs.laws.every_recipe_composes.Goals as goal

pub returns : goal.returns
returns c = every
