-- The labels of a conversation, and their patterns.
use Rattle.std.proofs.Common.{◌≡◌, ◌<◌, List, length, map, true, Result, Ok, Err, IfOk, sym, ap, ◌∙◌, subst}
use Rattle.std.specs.List.{AllByRecursion}
use Rattle.std.proofs.lemmas.List.{length-map}
use Rattle.anb_term.specs.Tree.{trees_of, nodes, AreFormed}
use Rattle.anb_term.specs.declared.term.Term.{Term}
use Rattle.anb_term.specs.View.{tree_of}
use Rattle.anb_term.proofs.Lists.{all_take}
use Rattle.anb_algebra.specs.ByteMeaning.{has_operator}
use Rattle.anb_plays.specs.Plans.{Event}
use Rattle.anb_protocol.specs.Plans.{PlanEvent, plan_of, term_in}
use Rattle.anb_protocol.specs.Plays.{event_of}
use Rattle.anb_protocol.specs.Texts.{IsTermOf}
use Rattle.anb_protocol.specs.Views.{plan_event}
use Rattle.anb_accept.specs.Taking.{labels}
use Rattle.anb_accept.specs.Numbering.{AreNumbered}
use Rattle.anb_accept.specs.Patterns.{ArePatterns}
use Rattle.anb_accept.specs.Roles.{ArePatternsIn}
use Rattle.anb_accept.specs.Conversations.{overheard, to_hear}
use Rattle.anb_accept.specs.Equations.{heard_labels}
use Rattle.anb_unify.specs.Substitutions.{AreNamed}
use Rattle.anb_accept.specs.Events.{event_value}
use Rattle.anb_accept.proofs.Filling.{labels_long}
use Rattle.anb_accept.proofs.OfPlans.{labels_formed, labels_any, labels_named}
use Rattle.anb_accept.proofs.Conversing.{as_events, all_terms}
use Rattle.anb_unify.proofs.Steps.{map_map}
use Rattle.anb_accept.proofs.conversations.conversation_in.Goals as goal

both_ok : {V E : Type 0} (r : Result V E) (P Q R : V → Type 0) → ((v : V) → P v → Q v → R v) → IfOk r P → IfOk r Q → IfOk r R
both_ok (Ok v) P Q R f p q = f v p q
both_ok (Err e) P Q R f p q = tt

pub heard-requires : goal.heard-requires
heard-requires c =
    let p = c.args.protocol.now in
    let first = c.requires in
    let own = map plan_event c.args.events.now in
    let es = map to_hear own in
    let frame = c.in_ok-frame.frame in
    let of_plan = c.terms_of_plans.ensures p first.role c.name.ensures.protocol in
    let of_own = subst (λ (l : List PlanEvent). AllByRecursion (λ e. IsTermOf p (term_in e)) l) (sym first.is) (all_take (λ e. IsTermOf p (term_in e)) first.many (plan_of p first.role) of_plan) in
    let terms = all_terms p own of_own in
    let all = c.deref.result.now in
    let plan : map event_value all ≡ map event_of es = sym (map_map event_of plan_event all) ∙ ap (map event_of) (ap (map plan_event) c.deref.ensures.value ∙ c.in_ok-all.ensures) in
    let same : map tree_of frame.terms.items ≡ labels (map event_of es) = c.in_ok-frame.ensures.terms ∙ ap labels plan in
    let flags : frame.heard.items ≡ heard_labels (map event_of es) = c.in_ok-frame.ensures.heard ∙ ap heard_labels plan in
    let names : length p.atoms ≡ length c.declared-names.result.now = sym (ap length c.declared-names.ensures) in
    record {
      formed = subst (λ l. AreFormed (λ o. true) (trees_of l)) (sym same) (labels_any p es terms);
      few = subst (λ (l : List Term). nodes (map tree_of l) < 4294967295) c.deref-2.ensures.value (c.are_few.ensures c.if-not-are_few.false);
      named = subst (λ l. AreNamed (length c.declared-names.result.now) (trees_of l)) (sym same) (subst (λ n. AreNamed n (trees_of (labels (map event_of es)))) names (labels_named p es terms));
      long = ap length flags ∙ labels_long (map event_of es) ∙ sym (ap length same) ∙ length-map frame.terms.items tree_of;
    }

pub returns : goal.returns
returns c =
    let p = c.args.protocol.now in
    let first = c.requires in
    let own = map plan_event c.args.events.now in
    let es = map to_hear own in
    let has = has_operator p.formats in
    let all = c.deref.result.now in
    let own_plan = map event_value c.args.events.now in
    let plan = map event_value all in
    let of_plan = c.terms_of_plans.ensures p first.role c.name.ensures.protocol in
    let of_own = subst (λ (l : List PlanEvent). AllByRecursion (λ e. IsTermOf p (term_in e)) l) (sym first.is) (all_take (λ e. IsTermOf p (term_in e)) first.many (plan_of p first.role) of_plan) in
    let terms = all_terms p own of_own in
    let same : plan ≡ map event_of es = sym (map_map event_of plan_event all) ∙ ap (map event_of) (ap (map plan_event) c.deref.ensures.value ∙ c.in_ok-all.ensures) in
    let formed = subst (λ (l : List Event). AreFormed has (trees_of (labels l))) (sym same) (labels_formed p es terms) in
    let are = c.in_ok-patterns.ensures has plan formed c.in_ok-frame.ensures.terms c.in_ok-frame.ensures.heard in
    let told : plan ≡ overheard own_plan = same ∙ as_events own ∙ ap overheard (map_map event_of plan_event c.args.events.now) in
    let n = length c.declared-names.result.now in
    let atoms : n ≡ length p.atoms = ap length c.declared-names.ensures in
    let here = subst (λ (l : List Term). ArePatterns has n plan (map tree_of l)) (sym c.deref-3.ensures.value) are in
    both_ok c.numbered.result (λ all. ArePatterns has n plan (map tree_of all.items)) (λ all. AreNumbered n (map tree_of all.items)) (λ all. ArePatternsIn p (overheard own_plan) (map tree_of all.items))
    (λ all exact numbered. record {
      exact = subst (λ (l : List Event). ArePatterns has (length p.atoms) l (map tree_of all.items)) told (subst (λ k. ArePatterns has k plan (map tree_of all.items)) atoms exact);
      numbered = subst (λ k. AreNumbered k (map tree_of all.items)) atoms numbered;
    })
    (c.numbered.ensures.same has plan here) c.numbered.ensures.numbered
