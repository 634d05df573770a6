-- The protocol of a narration's file that has all roles with programs.
use Rattle.std.specs.Prelude.{◌≡◌, ℕ, List, [], ◌∷◌, Option, Some, None, is_none, if◌then◌else◌}
use Rattle.anb_protocol.specs.Protocols.{ProtocolValue, role_named}
use Rattle.anb_status.specs.declared.status.Status.TheVariants.{NoRole}
use Rattle.anb_command.specs.Fetches.{Files}
use Rattle.anb_command.specs.Files.{ProtocolInFile}
use Rattle.anb_command.specs.Roles.{SendableOf}
use Rattle.anb_command.specs.Steps.{Answer, InTurn, given, refused}
use Rattle.anb_stage_commands.specs.Words.{Cast, Staged}

-- the first role with a program that the protocol hasn't
abbrev pub first_absent : ProtocolValue → List Cast → Option (List ℕ)
first_absent p [] = None
first_absent p (c ∷ casts) = if is_none (role_named p c.role) then Some c.role else first_absent p casts

-- each role with a program is one of the protocol's, or the first that isn't is refused
abbrev pub HasRoles : ProtocolValue → List Cast → Answer (Unit {0}) → Type 0
HasRoles p casts (refused status) =
    (name : List ℕ) × (first_absent p casts ≡ Some name) × (status ≡ NoRole name)
HasRoles p casts (given _) = first_absent p casts ≡ None

-- the protocol, where it has these roles, and all its roles can send
abbrev pub IsCast : ProtocolValue → Staged → Answer ProtocolValue → Type 0
IsCast p s = InTurn (HasRoles p s.casts) (λ _. SendableOf p)

-- the same, of the protocol in the narration's file
abbrev pub CastInFile : Files → Staged → Answer ProtocolValue → Type 0
CastInFile files s = InTurn (ProtocolInFile files s.narration) (λ p. IsCast p s)
