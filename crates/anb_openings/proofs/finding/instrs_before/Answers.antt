use Rattle.std.proofs.Common.{◌-◌, take, sym, subst}
use Rattle.std.specs.List.{AllByRecursion}
use Rattle.anb_machine.specs.Works.{HasFewFields}
use Rattle.anb_openings.proofs.Going.{few_before}
use Rattle.anb_openings.proofs.finding.instrs_before.Goals as goal

pub returns-clause-few : goal.returns-clause-few
returns-clause-few c =
    let k = c.args.instruction - 1 in
    subst (λ l. AllByRecursion (HasFewFields c.args.code.now.formats) (take k l)) (sym c.instrs.ensures.instrs) (few_before c.args.code.now k c.formats.ensures.verified)
