use Rattle.anb_probed.proofs.Whole.{report_played}
use Rattle.anb_probed.proofs.laws.reports_are_played.Goals as goal

pub returns : goal.returns
returns c = report_played
