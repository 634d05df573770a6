-- The plan of who sees a role is one that can be compiled.
use Rattle.std.proofs.Common.{◌≡◌, ℕ, suc, ◌+◌, ◌≤◌, List, [], ◌∷◌, ◌++◌, length, map, refl, ap, ◌∙◌, arith}
use Rattle.std.specs.List.{AllByRecursion}
use Rattle.anb_term.specs.Tree.{Tree, leaf, tree_size, nodes}
use Rattle.anb_close.proofs.Growing.{nodes_append}
use Rattle.anb_protocol.specs.Choices.{each_after}
use Rattle.anb_protocol.specs.Protocols.{ActionValue, ProtocolValue}
use Rattle.anb_protocol.specs.Texts.{known_by, known_terms}
use Rattle.anb_protocol.specs.Plans.{PlanEvent, to_know, to_make, to_send, to_receive, plan_of, messages, made, events_at}
use Rattle.anb_protocol.specs.Plays.{event_of}
use Rattle.anb_protocol.specs.Laws.{HoldsOf}
use Rattle.anb_compile.specs.Unsent.{labels_of}
use Rattle.anb_compile.specs.Emitting.{known_in, KnowsLead, IsPlan, context_of}
use Rattle.anb_compile.proofs.Doing.{many_nodes}
use Rattle.anb_compile.proofs.Events.{labels_append}
use Rattle.anb_compile.proofs.Protocols.{knows_labels, nodes_known, own_cases, plan_is}
use Rattle.anb_judge.specs.Observed.{observed}
use Rattle.anb_judge.specs.Observers.{seen}

pub seen_events : (es : List PlanEvent) → map event_of (seen es) ≡ observed (map event_of es)
seen_events [] = refl
seen_events (to_know t ∷ es) = ap (λ l. event_of (to_know t) ∷ l) (seen_events es)
seen_events (to_make t ∷ es) = seen_events es
seen_events (to_send i t ∷ es) = ap (λ l. event_of (to_receive i t) ∷ l) (seen_events es)
seen_events (to_receive i t ∷ es) = ap (λ l. event_of (to_receive i t) ∷ l) (seen_events es)

pub seen_known : (es : List PlanEvent) → known_in (seen es) ≡ known_in es
seen_known [] = refl
seen_known (to_know t ∷ es) = ap (λ l. t ∷ l) (seen_known es)
seen_known (to_make t ∷ es) = seen_known es
seen_known (to_send i t ∷ es) = seen_known es
seen_known (to_receive i t ∷ es) = seen_known es

seen_append : (xs ys : List PlanEvent) → seen (xs ++ ys) ≡ seen xs ++ seen ys
seen_append [] ys = refl
seen_append (to_know t ∷ xs) ys = ap (λ l. to_know t ∷ l) (seen_append xs ys)
seen_append (to_make t ∷ xs) ys = seen_append xs ys
seen_append (to_send i t ∷ xs) ys = ap (λ l. to_receive i t ∷ l) (seen_append xs ys)
seen_append (to_receive i t ∷ xs) ys = ap (λ l. to_receive i t ∷ l) (seen_append xs ys)

none_leads : (es : List PlanEvent) → known_in es ≡ [] → KnowsLead es
none_leads [] none = tt
none_leads (to_know t ∷ es) none = cc
none_leads (to_make t ∷ es) none = none
none_leads (to_send i t ∷ es) none = none
none_leads (to_receive i t ∷ es) none = none

seen_leads : (es : List PlanEvent) → KnowsLead es → KnowsLead (seen es)
seen_leads [] leads = tt
seen_leads (to_know t ∷ es) leads = seen_leads es leads
seen_leads (to_make t ∷ es) leads = none_leads (seen es) (seen_known es ∙ leads)
seen_leads (to_send i t ∷ es) leads = seen_known es ∙ leads
seen_leads (to_receive i t ∷ es) leads = seen_known es ∙ leads

-- what holds of an event and of its message as one that is heard
seen_all : (Q : PlanEvent → Type 0) → ((i : ℕ) (t : Tree) → Q (to_send i t) → Q (to_receive i t)) → (es : List PlanEvent) → AllByRecursion Q es → AllByRecursion Q (seen es)
seen_all Q heard [] all = tt
seen_all Q heard (to_know t ∷ es) all = (all.0, seen_all Q heard es all.1)
seen_all Q heard (to_make t ∷ es) all = seen_all Q heard es all.1
seen_all Q heard (to_send i t ∷ es) all = (heard i t all.0, seen_all Q heard es all.1)
seen_all Q heard (to_receive i t ∷ es) all = (all.0, seen_all Q heard es all.1)

-- each event has a label
seen_long : (es : List PlanEvent) → length (seen es) ≡ length (labels_of (seen es))
seen_long [] = refl
seen_long (to_know t ∷ es) = ap suc (seen_long es)
seen_long (to_make t ∷ es) = seen_long es
seen_long (to_send i t ∷ es) = ap suc (seen_long es)
seen_long (to_receive i t ∷ es) = ap suc (seen_long es)

-- and these are terms of the protocol
seen_fresh : (names : List ℕ) (i : ℕ) (t : Tree) → nodes (labels_of (seen (map (λ x. to_make (leaf x)) names ++ to_send i t ∷ []))) ≤ tree_size t
seen_fresh [] i t = omega arith
seen_fresh (x ∷ names) i t = seen_fresh names i t

seen_each : (p : ProtocolValue) (role : ℕ) (before actions : List ActionValue) → nodes (labels_of (seen (each_after (events_at p role) before actions))) ≤ nodes (messages actions)
seen_each p role before [] = omega arith
seen_each p role before (a ∷ actions) =
    let n = length before + 1 in
    let ms = made p before a.message in
    let own = own_cases (λ l. nodes (labels_of (seen l)) ≤ tree_size a.message) role n ms a (seen_fresh ms n a.message) (omega arith) (omega arith) in
    let here = events_at p role before a in
    let rest = each_after (events_at p role) (before ++ a ∷ []) actions in
    let all = ap (λ l. nodes (labels_of l)) (seen_append here rest) ∙ ap nodes (labels_append (seen here) (seen rest)) ∙ nodes_append (labels_of (seen here)) (labels_of (seen rest)) in
    omega (arith, own, seen_each p role (before ++ a ∷ []) actions, all)

seen_knows : (ts : List Tree) → seen (map to_know ts) ≡ map to_know ts
seen_knows [] = refl
seen_knows (t ∷ ts) = ap (λ l. to_know t ∷ l) (seen_knows ts)

seen_few : (p : ProtocolValue) (role : ℕ) → HoldsOf p → nodes (labels_of (seen (plan_of p role))) ≤ 65536
unfolding plan_of
seen_few p role holds =
    let ks = known_by p role in
    let rest = each_after (events_at p role) [] p.actions in
    let all =
    ap (λ l. nodes (labels_of l)) (seen_append (map to_know ks) rest ∙ ap (λ l. l ++ seen rest) (seen_knows ks))
    ∙ ap nodes (labels_append (map to_know ks) (seen rest) ∙ ap (λ l. l ++ labels_of (seen rest)) (knows_labels ks))
    ∙ nodes_append ks (labels_of (seen rest)) in
    let most = holds.nodes in
    omega (arith, all, most, nodes_append (known_terms p) (messages p.actions), nodes_known p.knows role, seen_each p role [] p.actions)

pub seen_is_plan : (p : ProtocolValue) (role : ℕ) → HoldsOf p → IsPlan (context_of p (seen (plan_of p role))) (seen (plan_of p role))
seen_is_plan p role holds =
    let is = plan_is p role holds in
    let plan = plan_of p role in
    let few = seen_few p role holds in
    record {
      events = refl;
      leads = seen_leads plan is.leads;
      formed = seen_all _ (λ i t h. h) plan is.formed;
      small = seen_all _ (λ i t h. h) plan is.small;
      narrow = seen_all _ (λ i t h. h) plan is.narrow;
      few = few;
      short = omega (arith, few, seen_long plan, many_nodes (labels_of (seen plan)));
    }
