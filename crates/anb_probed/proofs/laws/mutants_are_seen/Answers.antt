use Rattle.anb_probed.proofs.Mutants.{mutants_seen}
use Rattle.anb_probed.proofs.laws.mutants_are_seen.Goals as goal

pub returns : goal.returns
returns c = mutants_seen c.args.p.now c.cases_are_attempts.ensures c.mutants_are_seen.ensures
