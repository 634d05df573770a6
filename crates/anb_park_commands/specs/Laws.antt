-- That a record which was written is gone on from.
use Rattle.std.specs.Prelude.{ℕ, List}
use Rattle.anb_park.specs.Records.{Parked}
use Rattle.anb_command.specs.declared.limits.TheConstants.{RECORD_LIMIT}
use Rattle.anb_command.specs.Fetches.{Files}
use Rattle.anb_command.specs.Files.{FileIs}
use Rattle.anb_command.specs.Roles.{Part, PartInFile}
use Rattle.anb_command.specs.Steps.{given}
use Rattle.anb_park_commands.specs.Keys.{KeyIs}
use Rattle.anb_park_commands.specs.Identities.{IdentityIs}
use Rattle.anb_park_commands.specs.Records.{RecordIs}
use Rattle.anb_park_commands.specs.ResumeCommand.{ResumedIs}

-- a record that is accepted, as each one that is written, goes on with the narration, the role and
-- the key that it was written under
abbrev pub AcceptedRecordsGoOn : Type 0
AcceptedRecordsGoOn = (files : Files) (narration name saved key : List ℕ) (part : Part)
    (s : Parked) (secret bytes : List ℕ)
    → PartInFile files narration name (given part) → IdentityIs files narration name (given s.id)
    → FileIs files saved RECORD_LIMIT (given bytes) → KeyIs files key (given secret)
    → RecordIs part.protocol part.role s.id secret bytes (given s)
    → ResumedIs narration name saved key files
    (given (record { protocol = part.protocol; role = part.role; parked = s; key = secret }))
