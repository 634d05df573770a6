use Rattle.anb_spoil.proofs.Refusing.{rows_refused}
use Rattle.anb_spoil.proofs.laws.rows_are_refused.Goals as goal

pub returns : goal.returns
returns c = λ pieces sound. rows_refused pieces sound.rest_is_last
