use Rattle.anb_mutants.proofs.Trying.{suite_tries}
use Rattle.anb_mutants.proofs.laws.checks_are_tried.Goals as goal

pub returns : goal.returns
returns c = λ role code all suite is none place check at. suite_tries c.args.p.now role code all suite is none place check at
