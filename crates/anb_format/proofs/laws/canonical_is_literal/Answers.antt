use Rattle.anb_format.proofs.Canonical.{canonical}
use Rattle.anb_format.proofs.laws.canonical_is_literal.Goals as goal

pub returns : goal.returns
returns c = canonical
