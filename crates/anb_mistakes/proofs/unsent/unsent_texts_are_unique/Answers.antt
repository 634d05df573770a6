use Rattle.anb_mistakes.proofs.Finding.{unsent_once}
use Rattle.anb_mistakes.proofs.unsent.unsent_texts_are_unique.Goals as goal

pub returns : goal.returns
returns c = unsent_once
