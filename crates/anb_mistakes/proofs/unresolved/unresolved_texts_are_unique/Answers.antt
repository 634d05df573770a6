use Rattle.anb_mistakes.proofs.Finding.{resolved_once}
use Rattle.anb_mistakes.proofs.unresolved.unresolved_texts_are_unique.Goals as goal

pub returns : goal.returns
returns c = resolved_once
