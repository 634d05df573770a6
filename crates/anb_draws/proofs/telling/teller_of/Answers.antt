use Rattle.std.proofs.Common.{◌≡◌, ◌≤◌, List, length, sym, ap, ◌∙◌, subst, arith}
use Rattle.std.proofs.lemmas.List.{length-map}
use Rattle.anb_compile.specs.Emitting.{IsBlocked, IsPlan, RefusesPlan, context_of, known_in}
use Rattle.anb_compile.specs.declared.refusal.CompileNo.{CompileNo}
use Rattle.anb_protocol.specs.Plans.{PlanEvent, plan_of}
use Rattle.anb_protocol.specs.Views.{plan_event}
use Rattle.anb_draws.specs.Telling.{telling}
use Rattle.anb_draws.proofs.Plans.{none_blocked, telling_is_plan, telling_knows}
use Rattle.anb_draws.proofs.telling.teller_of.Goals as goal

pub compile_plan-requires-clause-plan : goal.compile_plan-requires-clause-plan
compile_plan-requires-clause-plan c =
    let p = c.args.p.now in
    let names = c.deref.result.now in
    let few : length c.events.result.now ≤ 65792 = c.if-events-gt-MOST.false in
    let long : length c.events.result.now ≡ length (telling c.args.n names (plan_of p c.args.role)) = sym (length-map c.events.result.now plan_event) ∙ ap length (c.events.ensures ∙ c.in_ok-plan.ensures) in
    let is = telling_is_plan p c.args.role c.args.n names c.requires.holds (omega (arith, few, long)) in
    subst (λ (l : List PlanEvent). IsPlan (context_of p l) l) (sym c.in_ok-plan.ensures) is

pub compile_plan-requires-clause-known : goal.compile_plan-requires-clause-known
compile_plan-requires-clause-known c = ap known_in c.in_ok-plan.ensures ∙ telling_knows c.args.p.now c.args.role c.args.n c.deref.result.now c.requires.holds

pub unreachable-requires : goal.unreachable-requires
unreachable-requires c =
    let p = c.args.p.now in
    let role = c.args.role in
    let n = c.args.n in
    let names = c.deref.result.now in
    let action = c.in-Err-CannotSend.field-0-0 in
    let few : length c.events.result.now ≤ 65792 = c.if-events-gt-MOST.false in
    let long : length c.events.result.now ≡ length (telling n names (plan_of p role)) = sym (length-map c.events.result.now plan_event) ∙ ap length (c.events.ensures ∙ c.in_ok-plan.ensures) in
    let is = telling_is_plan p role n names c.requires.holds (omega (arith, few, long)) in
    let refused = subst (λ (no : CompileNo). RefusesPlan c.in_ok-plan.plan role no) c.in-Err-CannotSend.field-0-is c.in-Err-CannotSend.ensures.refused in
    let blocks = subst (λ (l : List PlanEvent). (x : _) → IsPlan x l → IsBlocked x l action) c.in_ok-plan.ensures refused.1 in
    none_blocked p role n names action (rw c.deref.ensures.value c.in_ok-names.ensures.had) is blocks
