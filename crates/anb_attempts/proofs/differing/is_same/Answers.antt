use Rattle.anb_pattern.proofs.Same.{told}
use Rattle.anb_attempts.proofs.differing.is_same.Goals as goal

pub returns : goal.returns
returns c = told c.same.result c.args.one.now c.args.other.now c.same.ensures.0 c.same.ensures.1
