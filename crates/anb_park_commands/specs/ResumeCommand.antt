-- What `resume` does: a session of a role that goes on from its record, and is parked again where
-- it waits.
use Rattle.std.specs.Prelude.{◌≡◌, ◌⊎◌, ℕ, List, Option}
use Rattle.anb_base.specs.Wires.{WireState}
use Rattle.anb_store.specs.Stores.{StoreState}
use Rattle.anb_status.specs.declared.status.Status.{Status}
use Rattle.anb_command.specs.Fetches.{Files}
use Rattle.anb_command.specs.Files.{FileIs}
use Rattle.anb_command.specs.Roles.{Part, PartInFile}
use Rattle.anb_command.specs.Steps.{Answer, given, InTurn, AnswersWith}
use Rattle.anb_command.specs.declared.limits.TheConstants.{RECORD_LIMIT}
use Rattle.anb_park_commands.specs.declared.ended.RecordWay.TheVariants.{ByWire, ToFile}
use Rattle.anb_park_commands.specs.Identities.{IdentityIs}
use Rattle.anb_park_commands.specs.Keys.{KeyIs}
use Rattle.anb_park_commands.specs.Parking.{CompletesOver, IsRecordOf, KeepsIn, ParksOver}
use Rattle.anb_park_commands.specs.Records.{RecordIs}
use Rattle.anb_park_commands.specs.Sessions.{GoesOn, RoleSession}

module _ (narration name saved key : List ℕ) where
  -- What goes on, or the first refusal: of the narration, of the role, of the messages of all roles,
  -- of the record's file, of the key's, or of the record.
  abbrev pub ResumedIs : Files → Answer RoleSession → Type 0
  ResumedIs files =
      InTurn (PartInFile files narration name) (λ part.
      InTurn (FileIs files saved RECORD_LIMIT) (λ bytes.
      InTurn (KeyIs files key) (λ secret.
      InTurn (IdentityIs files narration name) (λ id.
      InTurn (RecordIs part.protocol part.role id secret bytes) (λ parked.
      AnswersWith (record {
        protocol = part.protocol;
        role = part.role;
        parked = parked;
        key = secret;
      }))))))

  -- the narration file is read, where it has the role and all can send the record's, and where that
  -- is short enough the key's
  abbrev pub IsReadToResume : Files → List ℕ → Type 0
  IsReadToResume files file =
      (file ≡ narration)
      ⊎ ((file ≡ saved) × ((part : Part) × PartInFile files narration name (given part)))
      ⊎ ((file ≡ key) × ((part : Part) × PartInFile files narration name (given part))
      × ((bytes : List ℕ) × FileIs files saved RECORD_LIMIT (given bytes)))

  module _ (told : Option Files) (old new : WireState) (status : Status) where
    abbrev pub DoesResume : Type 0
    DoesResume = ParksOver ByWire GoesOn ResumedIs told old new status IsReadToResume

    abbrev pub CompletesResume : Type 0
    CompletesResume = CompletesOver ByWire GoesOn ResumedIs told old new status

    -- the same where the record goes to a file of a store
    pub record DoesResumeInto (file : List ℕ) (store store_now : StoreState) : Type 0 where
      pub over_wire : ParksOver ToFile GoesOn ResumedIs told old new status IsReadToResume
      pub in_store : KeepsIn file (IsRecordOf ResumedIs told old.left) store store_now status

    abbrev pub CompletesResumeInto : Type 0
    CompletesResumeInto = CompletesOver ToFile GoesOn ResumedIs told old new status
