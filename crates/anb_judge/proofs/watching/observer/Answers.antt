use Rattle.std.proofs.Common.{List, sym, ap, ◌∙◌, subst}
use Rattle.anb_protocol.specs.Plans.{PlanEvent, plan_of}
use Rattle.anb_compile.specs.Emitting.{IsPlan, Emits, context_of, known_in}
use Rattle.anb_compile.proofs.Protocols.{known_of_plan}
use Rattle.anb_judge.specs.Observers.{seen}
use Rattle.anb_judge.proofs.SeenPlans.{seen_is_plan, seen_known}
use Rattle.anb_judge.proofs.watching.observer.Goals as goal

pub compile_plan-requires-clause-plan : goal.compile_plan-requires-clause-plan
compile_plan-requires-clause-plan c =
    let p = c.args.p.now in
    let P : List PlanEvent → Type 0 = λ l. IsPlan (context_of p l) l in
    subst P (sym (c.in_ok-plan.ensures ∙ ap seen c.requires.plan)) (seen_is_plan p c.args.role c.requires.holds)

pub compile_plan-requires-clause-known : goal.compile_plan-requires-clause-known
compile_plan-requires-clause-known c =
    let p = c.args.p.now in
    ap known_in (c.in_ok-plan.ensures ∙ ap seen c.requires.plan) ∙ seen_known (plan_of p c.args.role) ∙ known_of_plan p c.args.role

pub returns-in-Ok : goal.returns-in-Ok
returns-in-Ok c =
    let p = c.args.p.now in
    let P : List PlanEvent → Type 0 = λ l. Emits (context_of p l) l c.in-Ok.code.instrs in
    record {
      names = c.in-Ok.ensures.names;
      texts = c.in-Ok.ensures.texts;
      emits = subst P (c.in_ok-plan.ensures ∙ ap seen c.requires.plan) c.in-Ok.ensures.emits;
    }
