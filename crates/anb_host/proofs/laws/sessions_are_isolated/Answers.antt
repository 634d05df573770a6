use Rattle.anb_host.proofs.Isolation.{isolated}
use Rattle.anb_host.proofs.laws.sessions_are_isolated.Goals as goal

pub returns : goal.returns
returns c = λ plays events s. isolated plays s events
