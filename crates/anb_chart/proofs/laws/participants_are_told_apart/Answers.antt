use Rattle.anb_chart.proofs.Apart.{told_apart}
use Rattle.anb_chart.proofs.laws.participants_are_told_apart.Goals as goal

pub returns : goal.returns
returns c = told_apart
