use Rattle.std.proofs.Common.{◌≡◌, ◌≤◌, List, map, length, arith, rules, sym, ap, ◌∙◌, subst}
use Rattle.std.proofs.lemmas.List.{length-map}
use Rattle.std.specs.List.{AllByRecursion}
use Rattle.std.specs.Option.{option_map}
use Rattle.anb_term.specs.Tree.{nodes, tree_size}
use Rattle.anb_term.specs.View.{tree_of}
use Rattle.anb_protocol.specs.Plans.{PlanEvent, term_in}
use Rattle.anb_protocol.specs.Views.{plan_event}
use Rattle.anb_compile.specs.Emitting.{IsPlan, RefusesPlan, context_of, known_in}
use Rattle.anb_compile.specs.Unsent.{labels_of}
use Rattle.anb_compile.proofs.Protocols.{known_of_plan, plan_is}
use Rattle.anb_partner.specs.Plans.{partner_plan, script_of, term_at}
use Rattle.anb_partner.proofs.Planned.{partner_is_plan, partner_knows, plan_small}
use Rattle.anb_partner.proofs.planning.partner_for.Goals as goal

pub hook_of-hook-requires : goal.hook_of-hook-requires
hook_of-hook-requires c =
    let short = (plan_is c.args.p.now c.args.role (c.protocols_hold.ensures c.args.p.now c.name.ensures.protocol)).short in
    omega (arith, short, ap length (c.events.ensures ∙ c.in_ok-own.ensures.plan), length-map c.events.result.now plan_event)

pub plan_of_partner-requires-clause-few : goal.plan_of_partner-requires-clause-few
plan_of_partner-requires-clause-few c =
    let short = (plan_is c.args.p.now c.args.role (c.protocols_hold.ensures c.args.p.now c.name.ensures.protocol)).short in
    omega (arith, short, ap length (c.events-2.ensures ∙ c.in_ok-own.ensures.plan), length-map c.events-2.result.now plan_event)

pub plan_of_partner-requires-clause-known : goal.plan_of_partner-requires-clause-known
plan_of_partner-requires-clause-known c = ap known_in (c.events-2.ensures ∙ c.in_ok-own.ensures.plan) ∙ known_of_plan c.args.p.now c.args.role

pub is_small-requires : goal.is_small-requires
is_small-requires c =
    let p = c.args.p.now in
    let s = script_of p c.args.role (map tree_of c.args.arrivals.now) (map tree_of c.args.messages.now) (option_map term_at c.args.right) in
    subst (AllByRecursion (λ (e : PlanEvent). tree_size (term_in e) ≤ 1024)) (sym (c.events-3.ensures ∙ c.in_ok-plan.ensures))
    (plan_small s (c.protocols_hold.ensures p c.name.ensures.protocol) c.requires.right c.requires.arrivals c.requires.messages)

pub compile_plan-requires-clause-plan : goal.compile_plan-requires-clause-plan
compile_plan-requires-clause-plan c =
    let p = c.args.p.now in
    let s = script_of p c.args.role (map tree_of c.args.arrivals.now) (map tree_of c.args.messages.now) (option_map term_at c.args.right) in
    let few : nodes (labels_of (map plan_event c.events-3.result.now)) ≤ 65535 = search rules in
    let here = subst (λ (l : List PlanEvent). nodes (labels_of l) ≤ 65535) (c.events-3.ensures ∙ c.in_ok-plan.ensures) few in
    subst (λ (l : List PlanEvent). IsPlan (context_of p l) l) (sym c.in_ok-plan.ensures)
    (partner_is_plan s (c.protocols_hold.ensures p c.name.ensures.protocol) here c.requires.right c.requires.arrivals c.requires.messages)

pub compile_plan-requires-clause-known : goal.compile_plan-requires-clause-known
compile_plan-requires-clause-known c =
    ap known_in c.in_ok-plan.ensures ∙ partner_knows (script_of c.args.p.now c.args.role (map tree_of c.args.arrivals.now) (map tree_of c.args.messages.now) (option_map term_at c.args.right))

pub returns-in-Err-CannotSend-clause-refused : goal.returns-in-Err-CannotSend-clause-refused
returns-in-Err-CannotSend-clause-refused c =
    let p = c.args.p.now in
    let s = script_of p c.args.role (map tree_of c.args.arrivals.now) (map tree_of c.args.messages.now) (option_map term_at c.args.right) in
    let few : nodes (labels_of (map plan_event c.events-3.result.now)) ≤ 65535 = search rules in
    let here = subst (λ (l : List PlanEvent). nodes (labels_of l) ≤ 65535) (c.events-3.ensures ∙ c.in_ok-plan.ensures) few in
    let is = partner_is_plan s (c.protocols_hold.ensures p c.name.ensures.protocol) here c.requires.right c.requires.arrivals c.requires.messages in
    let refused = subst (λ (l : List PlanEvent). RefusesPlan l c.args.role c.in-Err-CannotSend.field-0) c.in_ok-plan.ensures c.in-Err-CannotSend.ensures.refused in
    let blocked = rw c.in-Err-CannotSend.field-0-is at refused in
    rw c.in-Err-CannotSend.field-0-is (blocked.1 (context_of p (partner_plan s)) is)
