-- Why a narration is refused, as a text.
use Rattle.std.specs.Prelude.{◌≡◌, ◌⊎◌, ℕ, List, ◌++◌, codes, decimal, slice_get, Option, Some}
use Rattle.std.specs.List.{flat_map}
use Rattle.anb_base.specs.Wires.{WireState}
use Rattle.anb_term.specs.Tree.{Tree}
use Rattle.anb_term.specs.View.{tree_of}
use Rattle.anb_protocol.specs.Plays.{IsSendable}
use Rattle.anb_protocol.specs.Protocols.{ProtocolValue}
use Rattle.anb_protocol.specs.Texts.{term_text}
use Rattle.anb_reason.specs.declared.reasons.Refusal.{Refusal}
use Rattle.anb_reason.specs.Reach.{IsReason}
use Rattle.anb_status.specs.declared.status.Status.{Status}
use Rattle.anb_command.specs.Fetches.{Files, IfTold}
use Rattle.anb_command.specs.Files.{ProtocolInFile}
use Rattle.anb_command.specs.Steps.{Answer, refused, given, InTurn}
use Rattle.anb_command.specs.Writing.{CompletesText, IsWritingOne}

-- the canonical texts of terms, a line each
abbrev pub term_lines : ProtocolValue → List Tree → List ℕ
term_lines p terms = flat_map (λ t. term_text p t ++ codes "\n") terms

-- the action that can't be sent, with its sender's name and its message; and the terms of the reason
abbrev pub refusal_text : ProtocolValue → List ℕ → Refusal → List ℕ
refusal_text p sender r =
    sender ++ (codes " can't compose " ++ (term_text p (tree_of r.term)
    ++ (codes " at action " ++ (decimal r.action ++ (codes "\n" ++ term_lines p r.terms)))))

-- the text of the protocol's refusal
pub record IsRefusalText (p : ProtocolValue) (text : List ℕ) : Type 0 where
  pub refusal : Refusal
  pub sender : List ℕ
  pub reason : IsReason p refusal
  pub is_sender : slice_get p.roles refusal.role ≡ Some sender
  pub is : text ≡ refusal_text p sender refusal

-- Each role can send what it must, and the text says so; or it is the text of the refusal.
abbrev pub IsReasonText : ProtocolValue → List ℕ → Type 0
IsReasonText p text = (IsSendable p × (text ≡ codes "all sendable\n")) ⊎ IsRefusalText p text

-- `why` writes this text of the protocol in the file, whether or not its roles can send
abbrev pub WhyOf : ProtocolValue → Answer (List ℕ) → Type 0
WhyOf p (refused status) = ⊥
WhyOf p (given text) = IsReasonText p text

abbrev pub WhyText : Files → List ℕ → Answer (List ℕ) → Type 0
WhyText files narration = InTurn (ProtocolInFile files narration) WhyOf

module _ (narration : List ℕ) (told : Option Files) where
  abbrev pub DoesWhy : (old new : WireState) → Status → Type 0
  DoesWhy old new status =
      IfTold told (λ files. IsWritingOne (WhyText files narration) status old.written new.written)

  abbrev pub CompletesWhy : Status → Type 0
  CompletesWhy status = IfTold told (λ files. CompletesText (WhyText files narration) status)
