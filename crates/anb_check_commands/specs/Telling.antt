-- For proofs alone: what is told of a verdict.
use Rattle.std.specs.Prelude.{◌≡◌, ◌⊎◌, ℕ, false, List, Option, Some, None}
use Rattle.anb_base.specs.declared.TheConstants.{ARRIVAL, WIDE}
use Rattle.anb_syntax.specs.Grammar.{Narration}
use Rattle.anb_protocol.specs.Checks.{fault}
use Rattle.anb_protocol.specs.Plays.{IsSendable}
use Rattle.anb_protocol.specs.Protocols.{ProtocolValue, protocol_of}
use Rattle.anb_protocol.specs.declared.refusals.ResolveNo.{ResolveNo}
use Rattle.anb_mistakes.specs.Unresolved.{IsUnresolvedText}
use Rattle.anb_status.specs.declared.status.NarrationNo.TheVariants.{Resolve}
use Rattle.anb_status.specs.declared.status.Status.{Status}
use Rattle.anb_status.specs.declared.status.Status.TheVariants.{BadNarration, BadValues, CannotSend, Done}
use Rattle.anb_command.specs.Phases.{told_phase, values_phase}
use Rattle.anb_command.specs.Files.{NarrationIs, ProtocolIs}
use Rattle.anb_command.specs.Roles.{AllSend, Part, PartOf}
use Rattle.anb_status.specs.Statuses.{after_reach, is_fault, why_ill_formed}
use Rattle.anb_command.specs.Steps.{Answer, InTurn, refused}
use Rattle.anb_command.specs.Writing.{IsWritten}
use Rattle.anb_check_commands.specs.CheckCommand.{IsLackSaid, IsReport}

-- a status that comes when all is written
pub record IsLast (status : Status) : Type 0 where
  pub calm : is_fault status ≡ false
  pub late : told_phase status ≡ after_reach

-- the same of a values file
pub record IsLastOfValues (status : Status) : Type 0 where
  pub calm : is_fault status ≡ false
  pub late : values_phase status ≡ after_reach

-- a refusal of the steps before the values
abbrev pub IsBeforeValues : Status → Type 0
IsBeforeValues (BadValues why) = ⊥
IsBeforeValues status = Unit {0}

-- the role of this name in the protocol that a narration tells, and in that of a text
abbrev pub PartOfNarration : Narration → (name : List ℕ) → Answer Part → Type 0
PartOfNarration n name = InTurn (ProtocolIs n) (λ p. PartOf p name)

abbrev pub PartOfText : (x name : List ℕ) → Answer Part → Type 0
PartOfText x name = InTurn (NarrationIs x) (λ n. PartOfNarration n name)

-- the status that comes of writing a text: this one, where all was written
abbrev pub ended_by : Status → (writing : Status) → Status
ended_by status Done = status
ended_by status writing = writing

-- a text was written as far as it went
pub record IsTold (status : Status) (said : List ℕ) (result : Status) (written written_now : Option (List ℕ)) : Type 0 where
  pub writing : Status
  pub writes : IsWritten said writing written written_now
  pub ends : result ≡ ended_by status writing

-- the verdict on the protocol of a text
abbrev pub IsVerdictOnProtocol : (name x : List ℕ) → ProtocolValue → Status → List ℕ → Type 0
IsVerdictOnProtocol name x p status said =
    ((action : ℕ) × (role : List ℕ) × (status ≡ CannotSend action role) × AllSend p (refused status) × IsLackSaid name x p action said)
    ⊎ (IsSendable p × (status ≡ Done) × IsReport p said)

-- the verdict on the narration of a text
abbrev pub IsVerdictOnNarration : (name x : List ℕ) → Narration → Status → List ℕ → Type 0
IsVerdictOnNarration name x n status said =
    ((why : ResolveNo) × (fault ARRIVAL WIDE n ≡ Some why) × (status ≡ BadNarration (Resolve why))
    × IsUnresolvedText name x n why (why_ill_formed why) said)
    ⊎ ((fault ARRIVAL WIDE n ≡ None) × IsVerdictOnProtocol name x (protocol_of n) status said)
