-- What `enact` does with a role file that `certify` certified.
use Rattle.std.specs.Prelude.{List, ℕ, Option}
use Rattle.anb_base.specs.Bytes.{IsBytes}
use Rattle.anb_protocol.specs.Protocols.{ProtocolValue}
use Rattle.anb_command.specs.Fetches.{Files}
use Rattle.anb_command.specs.Files.{ProtocolInFile}
use Rattle.anb_command.specs.Roles.{Part, PartInFile, RoleIs}
use Rattle.anb_command.specs.Steps.{given}
use Rattle.anb_certify_commands.specs.CertifyCommand.{CertifyText}
use Rattle.anb_role_commands.specs.Jobs.{JobOf}
use Rattle.anb_file_laws.specs.Compiled.{IsEnactedAs, IsEnactedAsPlayed}

-- A role file that is certified for a role is enacted as this role's plan is played, also where another
-- role can't send. Where all can, that is what `play` does.
abbrev pub CertifiedFilesPlay : Type 0
CertifiedFilesPlay =
    (files : Files) (narration name file text : List ℕ) → CertifyText files narration name file (given text)
    → (p : ProtocolValue) (role : ℕ) → ProtocolInFile files narration (given p) → RoleIs p name (given role)
    → (values : List ℕ) (host_seed : Option (List ℕ)) (left : List ℕ) → IsBytes left
    → IsEnactedAs (JobOf files values host_seed (record { protocol = p; role = role })) files file values host_seed left
    × ((part : Part) → PartInFile files narration name (given part) → IsEnactedAsPlayed files narration name file values host_seed left)
