use Rattle.anb_report.proofs.FreeParts.{unchecked_is_free}
use Rattle.anb_report.proofs.laws.unchecked_is_free.Goals as goal

pub returns : goal.returns
returns g c = unchecked_is_free (g.A.Algebra.meaning c.args.a.now) (g.met.A.Algebra.lawful c.args.a.now)
