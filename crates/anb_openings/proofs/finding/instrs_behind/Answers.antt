use Rattle.std.proofs.Common.{◌≡◌, ◌-◌, length, take, drop, sym, ap, ◌∙◌, subst, arith}
use Rattle.std.specs.List.{AllByRecursion}
use Rattle.std.proofs.lemmas.List.{length-drop, take_all}
use Rattle.anb_machine.specs.Works.{HasFewFields}
use Rattle.anb_openings.proofs.Going.{few_behind}
use Rattle.anb_openings.proofs.finding.instrs_behind.Goals as goal

pub returns-clause-few : goal.returns-clause-few
returns-clause-few c =
    let k = c.args.instruction in
    let l = c.instrs.result.now in
    let all : take (length l - k) (drop k l) ≡ drop k c.args.code.now.instrs = take_all (length l - k) (drop k l) (omega (arith, length-drop k l)) ∙ ap (drop k) c.instrs.ensures.instrs in
    subst (AllByRecursion (HasFewFields c.args.code.now.formats)) (sym all) (few_behind c.args.code.now k c.formats.ensures.verified)
