use Rattle.anb_report.proofs.Checking.{checks_nothing_unchecked}
use Rattle.anb_report.proofs.laws.checks_nothing_unchecked.Goals as goal

pub returns : goal.returns
returns c = checks_nothing_unchecked
