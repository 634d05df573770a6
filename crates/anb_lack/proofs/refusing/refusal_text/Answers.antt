use Rattle.std.proofs.Common.{◌≡◌, ◌++◌, ◌∷◌, List, ℕ, length, Some, ap, ◌∙◌, sym, subst, arith, map}
use Rattle.std.specs.List.{AllByRecursion, AllZip}
use Rattle.std.specs.Prelude.{slice_get}
use Rattle.std.proofs.lemmas.Slice.Zip.{AllZip-long}
use Rattle.anb_lemmas.proofs.Each.{each_in_front}
use Rattle.anb_term.specs.View.{tree_of}
use Rattle.anb_term.proofs.Lists.{slice_get-at}
use Rattle.anb_protocol.specs.Plans.{PlanEvent, plan_of, term_in, to_send}
use Rattle.anb_protocol.specs.Texts.{IsTermOf}
use Rattle.anb_protocol.specs.Views.{plan_event}
use Rattle.anb_lack.specs.Before.{IsBefore}
use Rattle.anb_lack.specs.Lacking.{lists_text, refused_text}
use Rattle.anb_lack.specs.Origins.{HasBy, IsListedFrom}
use Rattle.anb_lack.proofs.Sends.{before_reason}
use Rattle.anb_lack.proofs.Showing.{had_at_end}
use Rattle.anb_lack.proofs.refusing.refusal_text.Goals as goal

pub listed_origins-requires-clause-terms : goal.listed_origins-requires-clause-terms
listed_origins-requires-clause-terms c = subst (AllByRecursion (IsTermOf c.args.protocol.now)) (sym c.as_slice-terms.ensures) c.requires.terms

pub listed_origins-requires-clause-had : goal.listed_origins-requires-clause-had
listed_origins-requires-clause-had c =
    let p = c.args.protocol.now in
    let r = c.args.refusal.now in
    subst (AllByRecursion (HasBy p (plan_of p r.role) (length (plan_of p r.role)))) (sym c.as_slice-terms.ensures) (had_at_end p r c.requires.reason)

pub lists_text-requires-clause-before : goal.lists_text-requires-clause-before
lists_text-requires-clause-before c =
    let p = c.args.protocol.now in
    let r = c.args.refusal.now in
    let unsent = c.requires.reason.unsent in
    let found = c.before_send-before.result.now in
    let same = c.events.ensures ∙ c.in_ok-plan.ensures.plan in
    let before = before_reason p r c.requires.reason (map plan_event found) (subst (λ es. IsBefore r.action es (map plan_event found)) same c.before_send-before.ensures) in
    let P : PlanEvent → Type 0 = λ e. IsTermOf p (term_in e) in
    subst (AllByRecursion P) (sym before) (each_in_front P unsent.before (to_send r.action unsent.message ∷ unsent.after) (subst (AllByRecursion P) unsent.plan c.requires.plan))

pub lists_text-requires-clause-long : goal.lists_text-requires-clause-long
lists_text-requires-clause-long c =
    let p = c.args.protocol.now in
    let r = c.args.refusal.now in
    let slice = c.as_slice-terms.result.now in
    let found = c.before_send-before.result.now in
    ap length c.deref.ensures.value ∙ AllZip-long (IsListedFrom p (map tree_of slice) (plan_of p r.role) (map plan_event found)) (map tree_of slice) c.in_ok-origins.origins.items c.in_ok-origins.ensures ∙ ap length c.as_slice-terms.ensures

pub returns : goal.returns
returns c =
    let p = c.args.protocol.now in
    let r = c.args.refusal.now in
    let unsent = c.requires.reason.unsent in
    let sender = c.index-roles-refusal.result in
    let here : slice_get c.roles.result.now r.role ≡ Some sender = slice_get-at c.roles.result.now r.role sender (omega (arith, c.requires.reason.role, ap length c.roles.ensures)) c.index-roles-refusal.is in
    let P : List (List ℕ) → Type 0 = λ roles. slice_get roles r.role ≡ Some sender in
    let origins = c.in_ok-origins.origins.items in
    let found = c.before_send-before.result.now in
    let same = c.events.ensures ∙ c.in_ok-plan.ensures.plan in
    let before = before_reason p r c.requires.reason (map plan_event found) (subst (λ es. IsBefore r.action es (map plan_event found)) same c.before_send-before.ensures) in
    let listed = subst (λ us. AllZip (IsListedFrom p us (plan_of p r.role) (map plan_event found)) us origins) c.as_slice-terms.ensures c.in_ok-origins.ensures in
    record {
      refusal = r;
      sender = sender;
      origins = origins;
      reason = c.requires.reason;
      is_sender = subst P c.roles.ensures here;
      are_origins = subst (λ es. AllZip (IsListedFrom p r.terms (plan_of p r.role) es) r.terms origins) before listed;
      line_is = c.in_ok-put_refused.ensures ∙ ap (λ l. l ++ refused_text p sender r) c.new-line.ensures.items;
      lists_are = c.in_ok-lists.ensures ∙ ap (λ es. lists_text p sender r es c.deref.result.now) before ∙ ap (λ os. lists_text p sender r unsent.before os) c.deref.ensures.value;
    }
