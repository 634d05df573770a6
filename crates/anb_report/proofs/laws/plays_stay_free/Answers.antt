use Rattle.anb_report.proofs.FreeParts.{plays_stay_free}
use Rattle.anb_report.proofs.laws.plays_stay_free.Goals as goal

pub returns : goal.returns
returns g c = plays_stay_free (g.A.Algebra.meaning c.args.a.now) (g.met.A.Algebra.lawful c.args.a.now) c.runs_as_played.ensures c.exec_is_run.ensures
