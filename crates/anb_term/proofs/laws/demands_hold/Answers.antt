use Rattle.anb_term.proofs.Demands.{agree_holds_all}
use Rattle.anb_term.proofs.laws.demands_hold.Goals as goal

pub returns : goal.returns
returns g c = agree_holds_all (g.A.Algebra.meaning c.args.a.now) (g.met.A.Algebra.lawful c.args.a.now)
