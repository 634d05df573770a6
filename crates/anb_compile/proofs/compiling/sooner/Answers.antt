use Rattle.std.proofs.Common.{Option, sym, subst}
use Rattle.anb_compile.specs.declared.compiling.Unsent.{Unsent}
use Rattle.anb_compile.specs.Refusing.{IsSooner}
use Rattle.anb_compile.proofs.Roles.{no_first, first_stays, next_is_sooner}
use Rattle.anb_compile.proofs.compiling.sooner.Goals as goal

pub returns-in-None : goal.returns-in-None
returns-in-None c =
    let P : Option Unsent → Type 0 = λ o. IsSooner o c.args.next c.args.next in
    subst P (sym c.in-None.is) (no_first c.args.next)

pub returns-then-unsent-next : goal.returns-then-unsent-next
returns-then-unsent-next c =
    let P : Option Unsent → Type 0 = λ o. IsSooner o c.args.next c.in-Some.unsent in
    subst P (sym c.in-Some.is) (first_stays c.in-Some.unsent c.args.next c.if-unsent-next.true)

pub returns-else-unsent-next : goal.returns-else-unsent-next
returns-else-unsent-next c =
    let P : Option Unsent → Type 0 = λ o. IsSooner o c.args.next c.args.next in
    subst P (sym c.in-Some.is) (next_is_sooner c.in-Some.unsent c.args.next c.if-unsent-next.false)
