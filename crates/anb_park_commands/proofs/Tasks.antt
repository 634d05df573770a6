-- What is begun, and what goes on, is one, and its refusals come before the wire is reached.
use Rattle.std.proofs.Common.{◌≡◌, ℕ, List, [], ◌∷◌, Option, refl, ap, sym, ◌∙◌}
use Rattle.anb_park.specs.Records.{Parked}
use Rattle.anb_read.specs.Laws.{NarrationsAreUnique, RefusalsAreUnique, NoneIsBoth}
use Rattle.anb_syntax.specs.Grammar.{Narration}
use Rattle.anb_values.specs.Fit.{FitIsUnique}
use Rattle.anb_command.specs.declared.limits.TheConstants.{KEY_LIMIT, RECORD_LIMIT}
use Rattle.anb_command.specs.Fetches.{Files}
use Rattle.anb_command.specs.Files.{FileIs}
use Rattle.anb_command.specs.Roles.{Part, PartInFile}
use Rattle.anb_command.specs.Steps.{given, HasOneAnswer}
use Rattle.anb_command.proofs.Ones.{RefusesQuietly, file_one, file_quiet, is_one, is_quiet, narration_in_file_one, not_both, part_one, part_quiet, quiet_as, same_given, same_refusal, then_one, then_quiet}
use Rattle.anb_role_commands.specs.Jobs.{Job, JobIs}
use Rattle.anb_role_commands.proofs.Tasks.{job_one, job_quiet}
use Rattle.anb_park_commands.specs.Identities.{IdentityIs, identity}
use Rattle.anb_park_commands.specs.Keys.{KeyIs, KeyOf}
use Rattle.anb_park_commands.specs.ParkCommand.{NewSessionIs}
use Rattle.anb_park_commands.specs.Records.{RecordIs}
use Rattle.anb_park_commands.specs.ResumeCommand.{ResumedIs}
use Rattle.anb_park_commands.proofs.Records.{record_one, record_quiet}

key_of_one : (bytes : List ℕ) → HasOneAnswer (KeyOf bytes)
key_of_one [] x y xs ys = xs ∙ sym ys
key_of_one (byte ∷ rest) x y xs ys = is_one (byte ∷ rest) x y xs ys

pub key_one : (files : Files) (key : List ℕ) → HasOneAnswer (KeyIs files key)
key_one files key = then_one (FileIs files key KEY_LIMIT) KeyOf (file_one files key KEY_LIMIT) key_of_one

key_of_quiet : (bytes : List ℕ) → RefusesQuietly (KeyOf bytes)
key_of_quiet [] = record { each = λ s is. quiet_as s _ (same_refusal _ _ is) (refl, refl) }
key_of_quiet (byte ∷ rest) = is_quiet _

key_quiet : (files : Files) (key : List ℕ) → RefusesQuietly (KeyIs files key)
key_quiet files key = then_quiet (file_quiet files key KEY_LIMIT) key_of_quiet

module _ (narrations : NarrationsAreUnique) (refusals : RefusalsAreUnique) (none : NoneIsBoth) (files : Files) (narration name : List ℕ) where
  identity_one : HasOneAnswer (IdentityIs files narration name)
  identity_one x y (n, in_file, is) (m, also, js) =
      let same : n ≡ m = same_given n m (narration_in_file_one narrations refusals none files narration (given n) (given m) in_file also) in
      is ∙ ap (λ (k : Narration). given (identity k name)) same ∙ sym js

  pub new_session_one : FitIsUnique → (values key : List ℕ) (host_seed : Option (List ℕ)) → HasOneAnswer (NewSessionIs narration name values key host_seed files)
  new_session_one fits values key host_seed =
      then_one (JobIs files narration name values host_seed) _ (job_one narrations refusals none fits files narration name values host_seed) (λ job.
      then_one (KeyIs files key) _ (key_one files key) (λ secret.
      then_one (IdentityIs files narration name) _ identity_one (λ id. is_one _)))

  pub resumed_one : (saved key : List ℕ) → HasOneAnswer (ResumedIs narration name saved key files)
  resumed_one saved key =
      then_one (PartInFile files narration name) _ (part_one narrations refusals none files narration name) (λ part.
      then_one (FileIs files saved RECORD_LIMIT) _ (file_one files saved RECORD_LIMIT) (λ bytes.
      then_one (KeyIs files key) _ (key_one files key) (λ secret.
      then_one (IdentityIs files narration name) _ identity_one (λ id.
      then_one (RecordIs part.protocol part.role id secret bytes) _ (record_one part.protocol part.role id secret bytes) (λ parked. is_one _)))))

module _ (files : Files) (narration name : List ℕ) where
  identity_quiet : RefusesQuietly (IdentityIs files narration name)
  identity_quiet = record { each = λ s is. not_both s (identity is.0 name) is.2 }

  pub new_session_quiet : (values key : List ℕ) (host_seed : Option (List ℕ)) → RefusesQuietly (NewSessionIs narration name values key host_seed files)
  new_session_quiet values key host_seed =
      then_quiet (job_quiet files narration name values host_seed) (λ (job : Job).
      then_quiet (key_quiet files key) (λ (secret : List ℕ).
      then_quiet identity_quiet (λ (id : List ℕ). is_quiet _)))

  pub resumed_quiet : (saved key : List ℕ) → RefusesQuietly (ResumedIs narration name saved key files)
  resumed_quiet saved key =
      then_quiet (part_quiet files narration name) (λ (part : Part).
      then_quiet (file_quiet files saved RECORD_LIMIT) (λ (bytes : List ℕ).
      then_quiet (key_quiet files key) (λ (secret : List ℕ).
      then_quiet identity_quiet (λ (id : List ℕ).
      then_quiet (record_quiet part.protocol part.role id secret bytes) (λ (parked : Parked). is_quiet _)))))
