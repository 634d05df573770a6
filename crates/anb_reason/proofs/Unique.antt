-- A protocol has one reason: what a refusal tells of its action is one.
use Rattle.std.proofs.Common.{◌≡◌, ℕ, List, ◌∷◌, ◌++◌, sym, ap, ◌∙◌, subst}
use Rattle.anb_term.specs.Tree.{Tree}
use Rattle.anb_term.specs.View.{tree_of}
use Rattle.anb_protocol.specs.Plans.{plan_of, to_send}
use Rattle.anb_protocol.specs.Protocols.{ProtocolValue}
use Rattle.anb_protocol.specs.Texts.{term_text}
use Rattle.anb_compile.specs.Unsent.{IsUnsent, IsFirstUnsentOfAll, labels_of}
use Rattle.anb_reason.specs.declared.reasons.Refusal.{Refusal}
use Rattle.anb_reason.specs.Reach.{IsReach, IsReason, IsBefore}
use Rattle.anb_reason.proofs.Ordered.{one_before, same_list}
use Rattle.anb_reason.proofs.Sending.{sends_at_one}

-- labels have one reach
reach_one : (p : ProtocolValue) (frame ts us : List Tree) → IsReach p frame ts → IsReach p frame us → ts ≡ us
reach_one p frame ts us one two =
    same_list (IsBefore p) (λ t u is js. one_before (term_text p t) (term_text p u) is js) ts us one.order two.order
    (λ u among. let held = one.held u among in two.all u held.0 held.1) (λ u among. let held = two.held u among in one.all u held.0 held.1)

pub first_of : (p : ProtocolValue) (r : Refusal) → IsReason p r → IsFirstUnsentOfAll p r.role r.action
first_of p r is = record { is_role = is.role; unsent = is.unsent; first = is.first }

-- of one action of one role
module _ (p : ProtocolValue) (r s : Refusal) (one : IsReason p r) (two : IsReason p s) (same_action : r.action ≡ s.action) (same_role : r.role ≡ s.role) where
  -- what a role has before an action that it can't send, and the message, are one
  at_one : (role action : ℕ) (u : IsUnsent p r.role r.action) (v : IsUnsent p role action) → r.role ≡ role → r.action ≡ action → (u.before ≡ v.before) × (u.message ≡ v.message)
  at_one role action u v is_role is_action =
      let plan : plan_of p r.role ≡ v.before ++ (to_send r.action v.message ∷ v.after) =
      ap (plan_of p) is_role ∙ v.plan ∙ ap (λ n. v.before ++ (to_send n v.message ∷ v.after)) (sym is_action) in
      sends_at_one p r.role r.action u.message v.message u.before u.after v.before v.after u.plan plan

  pub same_message : tree_of r.term ≡ tree_of s.term
  same_message = sym one.message ∙ (at_one s.role s.action one.unsent two.unsent same_role same_action).1 ∙ two.message

  pub same_terms : r.terms ≡ s.terms
  same_terms =
      let before = (at_one s.role s.action one.unsent two.unsent same_role same_action).0 in
      reach_one p (labels_of two.unsent.before) r.terms s.terms (subst (λ es. IsReach p (labels_of es) r.terms) before one.reach) two.reach
