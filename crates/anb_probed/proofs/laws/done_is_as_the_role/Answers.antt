use Rattle.anb_probed.proofs.Reported.{done_as_role}
use Rattle.anb_probed.proofs.laws.done_is_as_the_role.Goals as goal

pub returns : goal.returns
returns c = done_as_role c.args.p.now c.lax_programs_are_told.ensures
