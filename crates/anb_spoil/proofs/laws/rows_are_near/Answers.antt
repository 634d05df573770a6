use Rattle.anb_spoil.proofs.Near.{rows_near}
use Rattle.anb_spoil.proofs.laws.rows_are_near.Goals as goal

pub returns : goal.returns
returns c = λ pieces sound. rows_near pieces sound.rest_is_last
