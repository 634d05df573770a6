-- A role of the protocol in a narration's file, where all its roles can send.
use Rattle.std.specs.Prelude.{◌≡◌, ℕ, List, slice_get, Option, Some, None}
use Rattle.std.specs.List.{position_from}
use Rattle.std.specs.Str.{bytes_eq}
use Rattle.anb_protocol.specs.Plays.{IsSendable}
use Rattle.anb_protocol.specs.Protocols.{ProtocolValue, role_named}
use Rattle.anb_compile.specs.Unsent.{IsFirstUnsentOfAll}
use Rattle.anb_status.specs.declared.status.Status.TheVariants.{NoRole, CannotSend}
use Rattle.anb_command.specs.Files.{ProtocolInFile}
use Rattle.anb_command.specs.Steps.{Answer, refused, given, InTurn, AnswersWith}

abbrev pub RoleIs : ProtocolValue → List ℕ → Answer ℕ → Type 0
RoleIs p name (refused status) = (status ≡ NoRole name) × (role_named p name ≡ None)
RoleIs p name (given role) = role_named p name ≡ Some role

-- Each role can send what it must; or there is a first action, among those of all roles, whose message
-- no recipe gives to its sender.
abbrev pub AllSend : ProtocolValue → Answer (Unit {0}) → Type 0
AllSend p (refused status) =
    (role : ℕ) × (action : ℕ) × (name : List ℕ) × IsFirstUnsentOfAll p role action × (slice_get p.roles role ≡ Some name) × (status ≡ CannotSend action name)
AllSend p (given _) = IsSendable p

-- the protocol, where all its roles can send
abbrev pub SendableOf : ProtocolValue → Answer ProtocolValue → Type 0
SendableOf p = InTurn (AllSend p) (λ _. AnswersWith p)

-- a role of a protocol
pub record Part : Type 0 where
  pub protocol : ProtocolValue
  pub role : ℕ

-- the protocol's role of this name, where all its roles can send
abbrev pub PartOf : ProtocolValue → List ℕ → Answer Part → Type 0
PartOf p name =
    InTurn (RoleIs p name) (λ role.
    InTurn (AllSend p) (λ _.
    AnswersWith (record { protocol = p; role = role })))

module _ (files : List ℕ → Option (List ℕ)) where
  -- the same, of the protocol in a file
  abbrev pub SendableInFile : (narration : List ℕ) → Answer ProtocolValue → Type 0
  SendableInFile narration = InTurn (ProtocolInFile files narration) SendableOf

  abbrev pub PartInFile : (narration name : List ℕ) → Answer Part → Type 0
  PartInFile narration name = InTurn (ProtocolInFile files narration) (λ p. PartOf p name)
