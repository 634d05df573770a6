use Rattle.anb_choice.proofs.Lawfully.{lawful_of}
use Rattle.anb_choice.proofs.laws.faultless_is_lawful.Goals as goal

pub returns : goal.returns
returns c = lawful_of c.tokens_are_unique.ensures c.narrations_are_unique.ensures
