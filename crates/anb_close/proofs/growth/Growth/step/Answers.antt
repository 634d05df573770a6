use Rattle.std.proofs.Common.{arith}
use Rattle.anb_close.proofs.Growing.{grown_few, nodes_grown}
use Rattle.anb_close.proofs.growth.Growth.step.Goals as goal

pub openings-requires : goal.openings-requires
openings-requires c =
    let a = c.in_ok-touched.ensures.ok in
    omega (arith, grown_few _ _ a.rest.grown, nodes_grown _ _ _ _ a.parts a.is a.are, c.requires.few)

pub overflow_cast-result : goal.overflow_cast-result
overflow_cast-result c = omega (arith, grown_few _ _ c.requires.rest.grown)
