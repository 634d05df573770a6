-- A protocol has one reason, so one text is due.
use Rattle.std.proofs.Common.{◌≡◌, ℕ, List, Option, Some, sym, ap, ◌∙◌, inl, inr}
use Rattle.std.specs.Prelude.{slice_get}
use Rattle.anb_protocol.specs.Plays.{IsSendable}
use Rattle.anb_protocol.specs.Protocols.{ProtocolValue}
use Rattle.anb_reason.specs.declared.reasons.Refusal.{Refusal}
use Rattle.anb_reason.specs.Reach.{IsReason}
use Rattle.anb_reason.proofs.Unique.{first_of, same_message, same_terms}
use Rattle.anb_command.specs.Steps.{given, refused, HasOneAnswer}
use Rattle.anb_command.proofs.Senders.{first_one, none_unsent}
use Rattle.anb_certify_commands.specs.WhyCommand.{IsReasonText, IsRefusalText, WhyOf, refusal_text}

module _ (p : ProtocolValue) (r s : Refusal) (one : IsReason p r) (two : IsReason p s) where
  at_first : (r.action ≡ s.action) × (r.role ≡ s.role)
  at_first = first_one p r.role s.role r.action s.action (first_of p r one) (first_of p s two)

same_some : (x y : List ℕ) (o : Option (List ℕ)) → o ≡ Some x → o ≡ Some y → x ≡ y
same_some x y o is js = let same : Some x ≡ Some y = sym is ∙ js in cc

refusal_text_one : (p : ProtocolValue) (x y : List ℕ) → IsRefusalText p x → IsRefusalText p y → x ≡ y
refusal_text_one p x y one two =
    let r = one.refusal in
    let s = two.refusal in
    let at = at_first p r s one.reason two.reason in
    let sender : one.sender ≡ two.sender =
    same_some one.sender two.sender (slice_get p.roles s.role) (ap (slice_get p.roles) (sym at.1) ∙ one.is_sender) two.is_sender in
    let action = at.0 in
    let message = same_message p r s one.reason two.reason at.0 at.1 in
    let terms = same_terms p r s one.reason two.reason at.0 at.1 in
    let same : refusal_text p one.sender r ≡ refusal_text p two.sender s = cc in
    one.is ∙ same ∙ sym two.is

-- where each role can send there is no refusal
not_refused : (p : ProtocolValue) (x : List ℕ) → IsSendable p → IsRefusalText p x → ⊥
not_refused p x sendable is =
    let r = is.refusal in
    none_unsent p r.role r.action (sendable r.role is.reason.role) is.reason.unsent

reason_text_one : (p : ProtocolValue) (x y : List ℕ) → IsReasonText p x → IsReasonText p y → x ≡ y
reason_text_one p x y (inl (sendable, is)) (inl (also, js)) = is ∙ sym js
reason_text_one p x y (inl (sendable, is)) (inr refusal) = absurd (not_refused p y sendable refusal)
reason_text_one p x y (inr refusal) (inl (sendable, js)) = absurd (not_refused p x sendable refusal)
reason_text_one p x y (inr one) (inr two) = refusal_text_one p x y one two

pub why_one : (p : ProtocolValue) → HasOneAnswer (WhyOf p)
why_one p (refused s) other never is = absurd never
why_one p (given x) (refused t) is never = absurd never
why_one p (given x) (given y) is js = ap given (reason_text_one p x y is js)
