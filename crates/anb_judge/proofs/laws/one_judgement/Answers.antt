use Rattle.anb_judge.proofs.SeenPlays.{one_judgement}
use Rattle.anb_judge.proofs.laws.one_judgement.Goals as goal

pub returns : goal.returns
returns c = one_judgement
