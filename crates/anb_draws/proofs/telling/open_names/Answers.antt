use Rattle.std.proofs.Common.{◌≡◌, ◌<◌, List, map, true, sym, ap, ◌∙◌, subst, arith}
use Rattle.std.specs.List.{AllByRecursion}
use Rattle.anb_lemmas.proofs.Each.{each_by}
use Rattle.anb_term.specs.Tree.{Tree, nodes, trees_of, AreFormed, IsFormed}
use Rattle.anb_algebra.specs.ByteMeaning.{has_operator}
use Rattle.anb_compile.specs.Unsent.{labels_of}
use Rattle.anb_compile.proofs.Events.{formed_any}
use Rattle.anb_protocol.specs.Plans.{PlanEvent, plan_of}
use Rattle.anb_protocol.specs.Views.{plan_event}
use Rattle.anb_draws.specs.Telling.{frame_by, seen_by}
use Rattle.anb_draws.proofs.Plans.{all_formed, few_by, heard_formed}
use Rattle.anb_draws.proofs.telling.open_names.Goals as goal

pub closed-requires-clause-formed : goal.closed-requires-clause-formed
closed-requires-clause-formed c =
    let p = c.args.p.now in
    let has = has_operator p.formats in
    let frame = frame_by p c.args.role c.args.n in
    let same : map plan_event c.deref.result.now ≡ seen_by c.args.n (plan_of p c.args.role) = ap (map plan_event) c.deref.ensures.value ∙ c.in_ok-events.ensures ∙ ap (seen_by c.args.n) c.in_ok-plan.ensures.plan in
    subst (λ (l : List PlanEvent). AllByRecursion (IsFormed (λ o. true)) (labels_of l)) (sym same)
    (each_by (IsFormed has) (IsFormed (λ o. true)) (formed_any has) frame (heard_formed p c.args.role c.args.n c.requires.holds))

pub closed-requires-clause-few : goal.closed-requires-clause-few
closed-requires-clause-few c =
    let p = c.args.p.now in
    let same : map plan_event c.deref.result.now ≡ seen_by c.args.n (plan_of p c.args.role) = ap (map plan_event) c.deref.ensures.value ∙ c.in_ok-events.ensures ∙ ap (seen_by c.args.n) c.in_ok-plan.ensures.plan in
    let few : nodes (labels_of (seen_by c.args.n (plan_of p c.args.role))) < 4294967295 = let most = few_by p c.args.role c.requires.holds c.args.n in omega (arith, most) in
    subst (λ (l : List PlanEvent). nodes (labels_of l) < 4294967295) (sym same) few

pub open_in-requires : goal.open_in-requires
open_in-requires c =
    let p = c.args.p.now in
    let has = has_operator p.formats in
    let same : map plan_event c.deref.result.now ≡ seen_by c.args.n (plan_of p c.args.role) = ap (map plan_event) c.deref.ensures.value ∙ c.in_ok-events.ensures ∙ ap (seen_by c.args.n) c.in_ok-plan.ensures.plan in
    subst (λ (l : List Tree). AreFormed has (trees_of l)) (sym (c.in_ok-closure.ensures ∙ ap labels_of same))
    (all_formed has (frame_by p c.args.role c.args.n) (heard_formed p c.args.role c.args.n c.requires.holds))

pub returns : goal.returns
returns c =
    let p = c.args.p.now in
    let same : map plan_event c.deref.result.now ≡ seen_by c.args.n (plan_of p c.args.role) = ap (map plan_event) c.deref.ensures.value ∙ c.in_ok-events.ensures ∙ ap (seen_by c.args.n) c.in_ok-plan.ensures.plan in
    rw (c.in_ok-closure.ensures ∙ ap labels_of same) at c.open_in.ensures
