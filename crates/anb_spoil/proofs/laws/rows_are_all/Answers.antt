use Rattle.anb_spoil.proofs.Listed.{rows_all}
use Rattle.anb_spoil.proofs.laws.rows_are_all.Goals as goal

pub returns : goal.returns
returns c = rows_all
