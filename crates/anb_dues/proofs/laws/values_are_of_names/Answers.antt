use Rattle.anb_dues.proofs.Values.{of_names}
use Rattle.anb_dues.proofs.laws.values_are_of_names.Goals as goal

pub returns : goal.returns
returns c = λ values seed role count bytes. of_names c.args.p.now values seed count bytes c.plans_know_first.ensures role
