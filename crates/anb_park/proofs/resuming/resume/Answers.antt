use Rattle.std.proofs.Common.{ap, ◌∙◌}
use Rattle.anb_base.specs.declared.content.Suite.TheVariants.{One}
use Rattle.anb_seal.specs.Primitives.{sealed}
use Rattle.anb_park.specs.Records.{count_takes, IsWaiting}
use Rattle.anb_park.proofs.Bodies.{accepts_so}
use Rattle.anb_park.proofs.resuming.resume.Goals as goal

pub returns-in-Ok-Some-clause-accepts : goal.returns-in-Ok-Some-clause-accepts
returns-in-Ok-Some-clause-accepts c = λ p a.
    let is = rw c.in-Ok-Some.field-0-is at c.in-Ok-Some.ensures.some in
    accepts_so (count_takes c.args.code.now) (IsWaiting c.args.code.now) c.args.id c.go_on.result c.args.key.now c.args.parked.now c.into_vec.result.items p (ap (sealed One c.args.key.now) c.into_vec.ensures ∙ is) a c.go_on.ensures.refused
