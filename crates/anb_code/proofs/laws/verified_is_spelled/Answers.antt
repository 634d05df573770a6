use Rattle.anb_code.proofs.Spelled.{spelled_code}
use Rattle.anb_code.proofs.laws.verified_is_spelled.Goals as goal

pub returns : goal.returns
returns c = spelled_code
