use Rattle.anb_mistakes.proofs.Unreadable.{said_once}
use Rattle.anb_mistakes.proofs.unread.unread_texts_are_unique.Goals as goal

pub returns : goal.returns
returns c = said_once
