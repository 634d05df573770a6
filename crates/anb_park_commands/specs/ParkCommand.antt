-- What `park` does: a new session of a role on a wire, which is parked where it waits.
use Rattle.std.specs.Prelude.{◌≡◌, ◌⊎◌, ℕ, List, Option}
use Rattle.anb_base.specs.Wires.{WireState}
use Rattle.anb_store.specs.Stores.{StoreState}
use Rattle.anb_park.specs.Lives.{started}
use Rattle.anb_status.specs.declared.status.Status.{Status}
use Rattle.anb_command.specs.Fetches.{Files}
use Rattle.anb_command.specs.Steps.{Answer, given, InTurn, AnswersWith}
use Rattle.anb_role_commands.specs.Jobs.{IsRead, Job, JobIs}
use Rattle.anb_park_commands.specs.declared.ended.RecordWay.TheVariants.{ByWire, ToFile}
use Rattle.anb_park_commands.specs.Identities.{IdentityIs}
use Rattle.anb_park_commands.specs.Keys.{KeyIs}
use Rattle.anb_park_commands.specs.Parking.{CompletesOver, IsRecordOf, KeepsIn, ParksOver}
use Rattle.anb_park_commands.specs.Sessions.{Begins, RoleSession}

module _ (narration name values key : List ℕ) (host_seed : Option (List ℕ)) where
  -- What is begun, or the first refusal: of what is played, as `play` has it, or of the key's file.
  -- The session's number is 0.
  abbrev pub NewSessionIs : Files → Answer RoleSession → Type 0
  NewSessionIs files =
      InTurn (JobIs files narration name values host_seed) (λ job.
      InTurn (KeyIs files key) (λ secret.
      InTurn (IdentityIs files narration name) (λ id.
      AnswersWith (record {
        protocol = job.protocol;
        role = job.role;
        parked = started id job.initial job.seed 0;
        key = secret;
      }))))

  -- the files of a play are read as for `play`, and where there is something to play, the key's
  abbrev pub IsReadToPark : Files → List ℕ → Type 0
  IsReadToPark files file =
      IsRead files narration name values file
      ⊎ ((file ≡ key) × ((job : Job) × JobIs files narration name values host_seed (given job)))

  module _ (told : Option Files) (old new : WireState) (status : Status) where
    abbrev pub DoesPark : Type 0
    DoesPark = ParksOver ByWire Begins NewSessionIs told old new status IsReadToPark

    abbrev pub CompletesPark : Type 0
    CompletesPark = CompletesOver ByWire Begins NewSessionIs told old new status

    -- the same where the record goes to a file of a store
    pub record DoesParkInto (file : List ℕ) (store store_now : StoreState) : Type 0 where
      pub over_wire : ParksOver ToFile Begins NewSessionIs told old new status IsReadToPark
      pub in_store : KeepsIn file (IsRecordOf NewSessionIs told old.left) store store_now status

    abbrev pub CompletesParkInto : Type 0
    CompletesParkInto = CompletesOver ToFile Begins NewSessionIs told old new status
