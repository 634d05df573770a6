use Rattle.anb_host.proofs.Alone.{are_alone}
use Rattle.anb_host.proofs.laws.sessions_are_alone.Goals as goal

pub returns : goal.returns
returns c = are_alone
