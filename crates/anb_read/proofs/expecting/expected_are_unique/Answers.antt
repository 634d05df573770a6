use Rattle.anb_read.proofs.GoingOn.{expected_once}
use Rattle.anb_read.proofs.expecting.expected_are_unique.Goals as goal

pub returns : goal.returns
returns c = expected_once
