-- The verdict on a text from those on its parts.
use Rattle.std.proofs.Common.{◌≡◌, ℕ, List, Some, None, refl, sym, subst, inl, inr}
use Rattle.anb_base.specs.declared.TheConstants.{ARRIVAL, WIDE}
use Rattle.anb_syntax.specs.Grammar.{Narration}
use Rattle.anb_syntax.specs.Text.{Text}
use Rattle.anb_read.specs.Refusals.{IsRefusal}
use Rattle.anb_read.specs.declared.refusal.ReadNo.{ReadNo}
use Rattle.anb_protocol.specs.Checks.{fault}
use Rattle.anb_protocol.specs.Protocols.{ProtocolValue, protocol_of}
use Rattle.anb_protocol.specs.declared.refusals.ResolveNo.{ResolveNo}
use Rattle.anb_mistakes.specs.Unread.{IsUnreadText}
use Rattle.anb_mistakes.specs.Unresolved.{IsUnresolvedText}
use Rattle.anb_status.specs.declared.status.NarrationNo.TheVariants.{Read, Resolve}
use Rattle.anb_status.specs.declared.status.Status.{Status}
use Rattle.anb_status.specs.declared.status.Status.TheVariants.{BadNarration}
use Rattle.anb_status.specs.Statuses.{why_ill_formed}
use Rattle.anb_check_commands.specs.CheckCommand.{IsVerdictOnText, SaidOf}
use Rattle.anb_check_commands.specs.Telling.{IsVerdictOnNarration, IsVerdictOnProtocol}

module _ (name x : List ℕ) where
  -- a text that is no narration
  pub unread : (why : ReadNo) (said : List ℕ) → IsRefusal x why → IsUnreadText name x why said → IsVerdictOnText name x (BadNarration (Read why)) said
  unread why said is text = inl (inl (BadNarration (Read why), (why, refl, is), refl), text)

  module _ (n : Narration) (told : Text n x) where
    ill_formed : (s : Status) (said : List ℕ) (why : ResolveNo) → fault ARRIVAL WIDE n ≡ Some why → s ≡ BadNarration (Resolve why)
        → IsUnresolvedText name x n why (why_ill_formed why) said → IsVerdictOnText name x s said
    ill_formed s said why is status text =
        inl (inr (n, told, inl (s, (why, status, is), refl)), subst (λ (t : Status). SaidOf name x t said) (sym status) (n, told, text))

    of_protocol : (s : Status) (said : List ℕ) → fault ARRIVAL WIDE n ≡ None → IsVerdictOnProtocol name x (protocol_of n) s said → IsVerdictOnText name x s said
    of_protocol s said well (inl (action, sender, is, refuses, reason)) =
        inl (inr (n, told, inr (protocol_of n, (well, refl), inl (s, refuses, refl))), subst (λ (t : Status). SaidOf name x t said) (sym is) (n, told, reason))
    of_protocol s said well (inr (sendable, done, report)) =
        inr (protocol_of n, inr (n, told, inr (protocol_of n, (well, refl), inr (tt, sendable, refl))), done, report)

    -- a text that is one
    pub of_narration : (s : Status) (said : List ℕ) → IsVerdictOnNarration name x n s said → IsVerdictOnText name x s said
    of_narration s said (inl (why, is, status, text)) = ill_formed s said why is status text
    of_narration s said (inr (well, on)) = of_protocol s said well on

  -- and one whose protocol this is
  pub well : (n : Narration) (p : ProtocolValue) (s : Status) (said : List ℕ) → fault ARRIVAL WIDE n ≡ None → p ≡ protocol_of n → IsVerdictOnProtocol name x p s said → IsVerdictOnNarration name x n s said
  well n p s said formed is on = inr (formed, subst (λ (q : ProtocolValue). IsVerdictOnProtocol name x q s said) is on)
