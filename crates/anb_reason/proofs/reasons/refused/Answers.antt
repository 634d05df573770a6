use Rattle.std.proofs.Common.{◌≡◌, ap, ◌∙◌, subst}
use Rattle.anb_term.specs.View.{tree_of}
use Rattle.anb_term.proofs.Lists.{slice_get-at}
use Rattle.anb_close.specs.Entries as entries
use Rattle.anb_protocol.specs.Views.{plan_event}
use Rattle.anb_protocol.specs.declared.plans.Event.{Event}
use Rattle.anb_reason.specs.Stuck.{IsStuck}
use Rattle.anb_reason.proofs.Refusing.{at_formed, at_terms, reason_is, reason_told}
use Rattle.anb_reason.proofs.reasons.refused.Goals as goal

pub reach-requires-clause-formed : goal.reach-requires-clause-formed
reach-requires-clause-formed c =
    at_formed c.args.p.now c.args.role c.args.events.now c.args.i (entries.labels_of c.args.closure.now) c.requires.holds (record { plan = c.requires.plan; labels = c.requires.labels })

pub reach-requires-clause-terms : goal.reach-requires-clause-terms
reach-requires-clause-terms c =
    at_terms c.args.p.now c.args.role c.args.events.now c.args.i (entries.labels_of c.args.closure.now) c.requires.holds (record { plan = c.requires.plan; labels = c.requires.labels }) c.requires.terms

pub returns-clause-reason : goal.returns-clause-reason
returns-clause-reason c =
    let events = c.args.events.now in
    let i = c.args.i in
    let x = c.index-events-i.result in
    let frame = entries.labels_of c.args.closure.now in
    let s = c.requires.stuck in
    let same : s.0 ≡ x = (let e = slice_get-at events i x c.requires.within c.index-events-i.is in let f = s.1 in cc) in
    let stuck : IsStuck c.args.p.now frame c.args.action (plan_event x) = subst (λ (e : Event). IsStuck c.args.p.now frame c.args.action (plan_event e)) same s.2 in
    reason_is c.args.p.now c.args.role c.args.action events i frame x c.in_ok-term.term c.in_ok-terms.terms c.requires.holds c.requires.unsent (record { plan = c.requires.plan; labels = c.requires.labels })
    c.requires.within c.index-events-i.is c.requires.terms stuck (ap tree_of c.in_ok-term.ensures ∙ c.term.ensures) c.in_ok-terms.ensures

pub returns-clause-terms : goal.returns-clause-terms
returns-clause-terms c =
    let events = c.args.events.now in
    let i = c.args.i in
    let x = c.index-events-i.result in
    let frame = entries.labels_of c.args.closure.now in
    let s = c.requires.stuck in
    let same : s.0 ≡ x = (let e = slice_get-at events i x c.requires.within c.index-events-i.is in let f = s.1 in cc) in
    let stuck : IsStuck c.args.p.now frame c.args.action (plan_event x) = subst (λ (e : Event). IsStuck c.args.p.now frame c.args.action (plan_event e)) same s.2 in
    reason_told c.args.p.now (record { action = c.args.action; role = c.args.role; term = c.in_ok-term.term; terms = c.in_ok-terms.terms }) (reason_is c.args.p.now c.args.role c.args.action events i frame x c.in_ok-term.term c.in_ok-terms.terms c.requires.holds c.requires.unsent (record { plan = c.requires.plan; labels = c.requires.labels }) c.requires.within c.index-events-i.is c.requires.terms stuck (ap tree_of c.in_ok-term.ensures ∙ c.term.ensures) c.in_ok-terms.ensures) c.requires.terms
