use Rattle.std.proofs.Common.{List, sym, ap, ◌∙◌, subst}
use Rattle.anb_protocol.specs.Plans.{PlanEvent, plan_of}
use Rattle.anb_compile.specs.Emitting.{IsPlan, Emits, RefusesPlan, context_of, known_in}
use Rattle.anb_compile.proofs.Accepting.{fitted, fitted_few, fitted_once}
use Rattle.anb_compile.proofs.Protocols.{plan_is, known_of_plan, is_sendable, refused_role}
use Rattle.anb_compile.proofs.compiling.compile.Goals as goal

pub compile_plan-requires-clause-plan : goal.compile_plan-requires-clause-plan
compile_plan-requires-clause-plan c =
    let p = c.args.p.now in
    let e = c.in_ok-plan.ensures in
    let P : List PlanEvent → Type 0 = λ l. IsPlan (context_of p l) l in
    subst P (sym e.plan) (plan_is p c.args.role (c.protocols_hold.ensures p e.protocol))

pub compile_plan-requires-clause-known : goal.compile_plan-requires-clause-known
compile_plan-requires-clause-known c = ap known_in c.in_ok-plan.ensures.plan ∙ known_of_plan c.args.p.now c.args.role

pub returns-in-Err-clause-refused : goal.returns-in-Err-clause-refused
returns-in-Err-clause-refused c =
    let p = c.args.p.now in
    let e = c.in_ok-plan.ensures in
    let P : List PlanEvent → Type 0 = λ l. RefusesPlan l c.args.role c.in-Err.no in
    refused_role p c.args.role c.in-Err.no (plan_is p c.args.role (c.protocols_hold.ensures p e.protocol)) (subst P e.plan c.in-Err.ensures.refused)

pub returns-clause-fits : goal.returns-clause-fits
returns-clause-fits c =
    let p = c.args.p.now in
    let role = c.args.role in
    let code = c.in-Ok.code in
    let P : List PlanEvent → Type 0 = λ l. Emits (context_of p l) l code.instrs in
    fitted p role code.instrs c.requires c.in-Ok.ensures.texts (subst P c.in_ok-plan.ensures.plan c.in-Ok.ensures.emits) code c.in-Ok.ensures.names

pub returns-clause-few : goal.returns-clause-few
returns-clause-few c =
    let p = c.args.p.now in
    let role = c.args.role in
    let code = c.in-Ok.code in
    let P : List PlanEvent → Type 0 = λ l. Emits (context_of p l) l code.instrs in
    fitted_few p role code.instrs c.requires c.in-Ok.ensures.texts (subst P c.in_ok-plan.ensures.plan c.in-Ok.ensures.emits) code c.in-Ok.ensures.names

pub returns-clause-once : goal.returns-clause-once
returns-clause-once c =
    let p = c.args.p.now in
    let role = c.args.role in
    let code = c.in-Ok.code in
    let P : List PlanEvent → Type 0 = λ l. Emits (context_of p l) l code.instrs in
    fitted_once p role code.instrs c.requires c.in-Ok.ensures.texts (subst P c.in_ok-plan.ensures.plan c.in-Ok.ensures.emits) code c.in-Ok.ensures.names

pub returns-clause-sendable : goal.returns-clause-sendable
returns-clause-sendable c =
    let p = c.args.p.now in
    let role = c.args.role in
    let e = c.in_ok-plan.ensures in
    let P : List PlanEvent → Type 0 = λ l. Emits (context_of p l) l c.in-Ok.code.instrs in
    let emits = subst P e.plan c.in-Ok.ensures.emits in
    is_sendable (context_of p (plan_of p role)) (plan_of p role) (plan_is p role (c.protocols_hold.ensures p e.protocol)) emits.sendable

pub returns-clause-sent : goal.returns-clause-sent
returns-clause-sent c =
    let p = c.args.p.now in
    let P : List PlanEvent → Type 0 = λ l. Emits (context_of p l) l c.in-Ok.code.instrs in
    let emits = subst P c.in_ok-plan.ensures.plan c.in-Ok.ensures.emits in
    λ action u. u.no_recipe (emits.sendable u.before u.after action u.message u.plan)
