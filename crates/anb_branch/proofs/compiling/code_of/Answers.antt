use Rattle.std.proofs.Common.{ℕ, arith, subst}
use Rattle.anb_lemmas.proofs.Lists.{item_at}
use Rattle.anb_compile.specs.Fitting.{FitsRole}
use Rattle.anb_branch.proofs.compiling.code_of.Goals as goal

pub returns-in-Ok-clause-fits : goal.returns-in-Ok-clause-fits
returns-in-Ok-clause-fits c =
    let number = c.number_of.result in
    let P : ℕ → Type 0 = λ k. FitsRole c.args.arm.now k c.swap_remove.result in
    subst P c.number_of.ensures
    (c.in-Ok.ensures.fit.each number c.swap_remove.result
    (item_at c.in-Ok.codes.items number c.swap_remove.result (omega (arith, c.requires, c.number_of.ensures, c.in-Ok.ensures.fit.count)) c.swap_remove.ensures.value))
