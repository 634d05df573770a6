-- What stands before a send.
use Rattle.std.proofs.Common.{◌≡◌, ℕ, ◌+◌, ◌<◌, ◌≤◌, List, ◌∷◌, ◌++◌, length, map, take, drop, get_or, true, false, Some, refl, sym, ap, ◌∙◌, subst, inl, inr, arith}
use Rattle.std.specs.Prelude.{slice_get}
use Rattle.std.proofs.lemmas.Bool.{cases_order, eqb-true, eq-eqb}
use Rattle.std.proofs.lemmas.List.{length-map}
use Rattle.anb_lemmas.proofs.Lists.{get_seam, got_within}
use Rattle.anb_term.specs.Tree.{Tree}
use Rattle.anb_term.proofs.Lists.{slice_get-at, slice_get-map}
use Rattle.anb_protocol.specs.Plans.{PlanEvent, to_know, to_make, to_send, to_receive, plan_of}
use Rattle.anb_protocol.specs.Protocols.{ProtocolValue}
use Rattle.anb_protocol.specs.Views.{plan_event}
use Rattle.anb_protocol.specs.declared.plans.Event.{Event}
use Rattle.anb_compile.specs.Unsent.{IsUnsent}
use Rattle.anb_compile.proofs.Whole.{events_parted}
use Rattle.anb_reason.specs.declared.reasons.Refusal.{Refusal}
use Rattle.anb_reason.specs.Reach.{IsReason}
use Rattle.anb_reason.proofs.Sending.{sends_at_one}
use Rattle.anb_lack.specs.Before.{IsBefore, is_send}

-- ---- the events before the send of a reason are one

module _ (p : ProtocolValue) (r s : Refusal) (one : IsReason p r) (two : IsReason p s) (same_action : r.action ≡ s.action) (same_role : r.role ≡ s.role) where
  before_at : (role action : ℕ) (u : IsUnsent p r.role r.action) (v : IsUnsent p role action) → r.role ≡ role → r.action ≡ action → u.before ≡ v.before
  before_at role action u v is_role is_action =
      let plan : plan_of p r.role ≡ v.before ++ (to_send r.action v.message ∷ v.after) =
      ap (plan_of p) is_role ∙ v.plan ∙ ap (λ n. v.before ++ (to_send n v.message ∷ v.after)) (sym is_action) in
      (sends_at_one p r.role r.action u.message v.message u.before u.after v.before v.after u.plan plan).0

  pub same_before : one.unsent.before ≡ two.unsent.before
  same_before = before_at s.role s.action one.unsent two.unsent same_role same_action

-- what stands before the action's send in the plan is what stands before it in the reason
pub before_reason : (p : ProtocolValue) (r : Refusal) (reason : IsReason p r) (before : List PlanEvent) → IsBefore r.action (plan_of p r.role) before → before ≡ reason.unsent.before
before_reason p r reason before (inl (t, after, plan)) =
    (sends_at_one p r.role r.action t reason.unsent.message before after reason.unsent.before reason.unsent.after plan reason.unsent.plan).0
before_reason p r reason before (inr never) = absurd (never reason.unsent.before reason.unsent.after reason.unsent.message reason.unsent.plan)

-- ---- the first send

abbrev pub NoneSends : ℕ → List PlanEvent → ℕ → Type 0
NoneSends action plan i = (n : ℕ) (e : PlanEvent) → n < i → slice_get plan n ≡ Some e → is_send action e ≡ false

module _ (action : ℕ) (events : List Event) (i : ℕ) (x : Event) (h : i < length events) (own : x ≡ get_or events i x) where
  abbrev plan : List PlanEvent
  plan = map plan_event events

  at : slice_get plan i ≡ Some (plan_event x)
  at = slice_get-map plan_event events i x (slice_get-at events i x h own)

  pub none_yet : is_send action (plan_event x) ≡ false → NoneSends action plan i → NoneSends action plan (i + 1)
  none_yet off none n e below is = elim (cases_order n i) [
    | inl here ↦
        let both : Some (plan_event x) ≡ Some e = sym at ∙ ap (slice_get plan) (sym here) ∙ is in
        let equal : plan_event x ≡ e = cc in
        subst (λ (y : PlanEvent). is_send action y ≡ false) equal off
    | inr other ↦ elim other [ inl less ↦ none n e less is | inr more ↦ absurd (omega (arith, below, more)) ]
  ]

  pub sent_here : is_send action (plan_event x) ≡ true → IsBefore action plan (map plan_event (take i events))
  sent_here on = inl (by (plan_event x) refl on) where
    by : (e : PlanEvent) → plan_event x ≡ e → is_send action e ≡ true → (t : Tree) × (after : List PlanEvent) × (plan ≡ map plan_event (take i events) ++ to_send action t ∷ after)
    by (to_know t) is on = cc
    by (to_make t) is on = cc
    by (to_receive n t) is on = cc
    by (to_send n t) is on =
        let same : n ≡ action = eqb-true n action on in
        let after = map plan_event (drop (i + 1) events) in
        (t, after, events_parted plan_event events i x h own ∙ ap (λ y. map plan_event (take i events) ++ y ∷ after) (is ∙ ap (λ m. to_send m t) same))

-- where none sends it, it never is
pub never_sent : (action : ℕ) (events : List Event) (i : ℕ) → length events ≤ i → NoneSends action (map plan_event events) i → IsBefore action (map plan_event events) (map plan_event events)
never_sent action events i past none = inr (λ first last t is. (
    let plan = map plan_event events in
    let here : slice_get plan (length first) ≡ Some (to_send action t) = ap (λ l. slice_get l (length first)) is ∙ get_seam first last (to_send action t) in
    let within = got_within plan (length first) (to_send action t) here in
    let off = none (length first) (to_send action t) (omega (arith, within, past, length-map events plan_event)) here in
    let on : is_send action (to_send action t) ≡ true = eq-eqb action action refl in cc))
