use Rattle.anb_syntax.proofs.Printed.{printed}
use Rattle.anb_syntax.proofs.laws.canonical_is_text.Goals as goal

pub returns : goal.returns
returns c n s = printed n s
