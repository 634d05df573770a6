use Rattle.anb_probed.proofs.Reported.{right_done}
use Rattle.anb_probed.proofs.laws.right_programs_are_done.Goals as goal

pub returns : goal.returns
returns c = right_done c.args.p.now c.right_programs_pass.ensures
