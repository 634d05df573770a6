use Rattle.std.proofs.Common.{sym}
use Rattle.anb_term.proofs.Lists.{slice_get-at}
use Rattle.anb_suite.proofs.sparing.nth.Goals as goal

pub returns : goal.returns
returns c = sym (slice_get-at c.args.patterns.now c.args.at c.index-patterns-at.result c.requires c.index-patterns-at.is)
