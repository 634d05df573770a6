use Rattle.std.proofs.Common.{List, [], sym, ap, ◌∙◌, subst, arith}
use Rattle.anb_code.specs.Taking.{take_texts}
use Rattle.anb_protocol.specs.Plans.{PlanEvent}
use Rattle.anb_compile.specs.Emitting.{IsPlan, HasDone}
use Rattle.anb_compile.proofs.Doing.{known_most}
use Rattle.anb_compile.proofs.Whole.{texts_taken, whole}
use Rattle.anb_compile.proofs.emission.emit.Goals as goal

pub taken-requires : goal.taken-requires
taken-requires c = omega (arith, c.requires.texts, known_most c.requires.plan.0 c.args.plan.now c.requires.plan.1)

pub returns-clause-texts : goal.returns-clause-texts
returns-clause-texts c = c.in-Ok.ensures.texts ∙ ap take_texts c.in_ok-taken.ensures.code ∙ texts_taken c.args.texts.items

pub returns-clause-emits : goal.returns-clause-emits
returns-clause-emits c k plan =
    let P : List PlanEvent → Type 0 = λ l. IsPlan k l in
    let Q : List PlanEvent → Type 0 = λ l. HasDone k l [] c.events-2.new.self in
    let done = c.in-Ok.ensures.done k (subst P (sym c.events.ensures) plan) in
    let g = c.tell_basis.ensures in
    whole k c.args.plan.now c.events-2.new.self plan (subst Q c.events.ensures done) g g.few
