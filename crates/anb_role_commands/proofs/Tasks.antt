-- What is asked of `play` and of `enact` is one, and its refusals come before the wire is reached.
use Rattle.std.proofs.Common.{ℕ, List, Option}
use Rattle.anb_code.specs.CodeValue.{CodeValue}
use Rattle.anb_read.specs.Laws.{NarrationsAreUnique, RefusalsAreUnique, NoneIsBoth}
use Rattle.anb_protocol.specs.Texts.{known_texts}
use Rattle.anb_text.specs.Laws.{CodesAreUnique, FaultsAreUnique, FilesAreUnique, NoneIsBoth as NoFileIsFaulty}
use Rattle.anb_values.specs.Fit.{FitIsUnique}
use Rattle.anb_values.specs.declared.fitted.Fitted.{Fitted}
use Rattle.anb_command.specs.Errands.{ErrandOf}
use Rattle.anb_command.specs.Files.{CodeInFile}
use Rattle.anb_command.specs.Roles.{Part, PartInFile}
use Rattle.anb_command.specs.Steps.{HasOneAnswer}
use Rattle.anb_command.proofs.Ones.{RefusesQuietly, then_one, is_one, seed_one, part_one, values_in_file_one, code_in_file_one, errand_of_one, then_quiet, is_quiet, seed_quiet, part_quiet, values_in_file_quiet, code_in_file_quiet, errand_of_quiet}
use Rattle.anb_role_commands.specs.EnactCommand.{ErrandIs}
use Rattle.anb_role_commands.specs.Jobs.{JobIs, JobOf, makes_names}

module _ (role_files : FilesAreUnique) (codes : CodesAreUnique) (none : NoFileIsFaulty) (faults : FaultsAreUnique) (fits : FitIsUnique)
    (files : List ℕ → Option (List ℕ)) (code values : List ℕ) (host_seed : Option (List ℕ)) where
  pub errand_one : HasOneAnswer (ErrandIs files code values host_seed)
  errand_one =
      then_one (CodeInFile files code) (ErrandOf files values host_seed) (code_in_file_one role_files codes none faults files code) (errand_of_one fits files values host_seed)

module _ (narrations : NarrationsAreUnique) (refusals : RefusalsAreUnique) (none : NoneIsBoth) (fits : FitIsUnique)
    (files : List ℕ → Option (List ℕ)) (narration name values : List ℕ) (host_seed : Option (List ℕ)) where
  pub job_one : HasOneAnswer (JobIs files narration name values host_seed)
  job_one =
      then_one (PartInFile files narration name) (JobOf files values host_seed) (part_one narrations refusals none files narration name) (λ part.
      then_one _ _ (values_in_file_one fits files values (known_texts part.protocol part.role)) (λ fitted.
      then_one _ _ (seed_one (makes_names part.protocol part.role) fitted.seed host_seed) (λ seed.
      is_one (record { protocol = part.protocol; role = part.role; initial = fitted.values; seed = seed }))))

module _ (files : List ℕ → Option (List ℕ)) where
  pub job_quiet : (narration name values : List ℕ) (host_seed : Option (List ℕ)) → RefusesQuietly (JobIs files narration name values host_seed)
  job_quiet narration name values host_seed =
      then_quiet (part_quiet files narration name) (λ (part : Part). then_quiet (values_in_file_quiet files values (known_texts part.protocol part.role)) (λ (fitted : Fitted).
      then_quiet (seed_quiet (makes_names part.protocol part.role) fitted.seed host_seed) (λ (seed : List ℕ). is_quiet _)))

  pub errand_quiet : (code values : List ℕ) (host_seed : Option (List ℕ)) → RefusesQuietly (ErrandIs files code values host_seed)
  errand_quiet code values host_seed =
      then_quiet (code_in_file_quiet files code) (λ (loaded : CodeValue). errand_of_quiet files values host_seed loaded)
