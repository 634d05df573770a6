use Rattle.anb_probed.proofs.Mutants.{mutants_fail}
use Rattle.anb_probed.proofs.laws.mutants_are_told.Goals as goal

pub returns : goal.returns
returns c =
    mutants_fail c.args.p.now (c.protocols_hold.ensures c.args.p.now c.name.ensures.protocol) (λ role. c.terms_of_plans.ensures c.args.p.now role c.name.ensures.protocol) c.values_are_of_names.ensures
    c.mutants_are_told.ensures
