-- What is asked of `branch` is one, and its refusals come before the wire is reached.
use Rattle.std.proofs.Common.{◌≡◌, ℕ, true, false, List, Option, refl, ap, sym, ◌∙◌}
use Rattle.anb_choice.specs.Laws.{ChoicesAreUnique, NoneIsBoth, RefusalsAreUnique}
use Rattle.anb_choice.specs.Lawful.{BranchedValue}
use Rattle.anb_values.specs.Fit.{FitIsUnique}
use Rattle.anb_values.specs.declared.fitted.Fitted.{Fitted}
use Rattle.anb_command.specs.declared.limits.TheConstants.{NARRATION_LIMIT}
use Rattle.anb_status.specs.declared.status.Status.TheVariants.{BadBranch}
use Rattle.anb_command.specs.Fetches.{Files}
use Rattle.anb_command.specs.Files.{FileIs}
use Rattle.anb_command.specs.Steps.{refused, given, HasOneAnswer}
use Rattle.anb_command.proofs.Ones.{RefusesQuietly, file_one, file_quiet, is_one, is_quiet, quiet_as, seed_one, seed_quiet, then_one, then_quiet, values_in_file_one, values_in_file_quiet}
use Rattle.anb_branch_commands.specs.BranchJobs.{ArmsSend, BranchInFile, BranchIs, BranchJobIs, BranchJobOf, HasRole, SeatInFile, SeatOf, ToldIs, known_in, makes_in}
use Rattle.anb_branch_commands.proofs.Seats.{send_one, told_one}

-- ---- one answer

role_one : (b : BranchedValue) (role : List ℕ) → HasOneAnswer (HasRole b role)
role_one b role (refused s) (refused t) x y = ap refused (x.0 ∙ sym y.0)
role_one b role (refused s) (given u) x y = let never : true ≡ false = sym y ∙ x.1 in absurd (cc)
role_one b role (given u) (refused t) x y = let never : true ≡ false = sym x ∙ y.1 in absurd (cc)
role_one b role (given u) (given v) x y = refl

module _ (choices : ChoicesAreUnique) (refusals : RefusalsAreUnique) (none : NoneIsBoth) where
  branch_one : (text : List ℕ) → HasOneAnswer (BranchIs text)
  branch_one text (refused s) (refused t) (why, is, x) (other, js, y) = ap refused (is ∙ ap BadBranch (refusals text why other x y) ∙ sym js)
  branch_one text (refused s) (given b) (why, is, x) (y, lawful) = absurd (none text b why y lawful x)
  branch_one text (given b) (refused t) (x, lawful) (why, is, y) = absurd (none text b why x lawful y)
  branch_one text (given b) (given c) (x, lawful) (y, also) = ap given (choices text b c x y)

  seat_one : (files : Files) (narration role : List ℕ) (told : Option ℕ) → HasOneAnswer (SeatInFile files narration role told)
  seat_one files narration role told =
      then_one (BranchInFile files narration) (SeatOf role told) (then_one (FileIs files narration NARRATION_LIMIT) BranchIs (file_one files narration NARRATION_LIMIT) branch_one) (λ b.
      then_one (HasRole b role) _ (role_one b role) (λ u.
      then_one (ArmsSend b) _ (send_one b) (λ v.
      then_one (ToldIs b role told) _ (told_one b role told) (λ w. is_one b))))

  pub branch_job_one : FitIsUnique → (files : Files) (narration role values : List ℕ) (told : Option ℕ) (host_seed : Option (List ℕ)) → HasOneAnswer (BranchJobIs files narration role values told host_seed)
  branch_job_one fits files narration role values told host_seed =
      then_one (SeatInFile files narration role told) (BranchJobOf files role values told host_seed) (seat_one files narration role told) (λ b.
      then_one _ _ (values_in_file_one fits files values (known_in b role)) (λ fitted.
      then_one _ _ (seed_one (makes_in b role) fitted.seed host_seed) (λ seed.
      is_one (record { branched = b; role = role; told = told; initial = fitted.values; seed = seed }))))

-- ---- refusals

branch_quiet : (text : List ℕ) → RefusesQuietly (BranchIs text)
branch_quiet text = record { each = λ s why. quiet_as s _ why.1 (refl, refl) }

role_quiet : (b : BranchedValue) (role : List ℕ) → RefusesQuietly (HasRole b role)
role_quiet b role = record { each = λ s why. quiet_as s _ why.0 (refl, refl) }

send_quiet : (b : BranchedValue) → RefusesQuietly (ArmsSend b)
send_quiet b = record { each = λ s why. quiet_as s _ why.4 (refl, refl) }

told_quiet : (b : BranchedValue) (role : List ℕ) (told : Option ℕ) → RefusesQuietly (ToldIs b role told)
told_quiet b role told = record { each = λ s why. quiet_as s _ why.2 (refl, refl) }

seat_quiet : (files : Files) (narration role : List ℕ) (told : Option ℕ) → RefusesQuietly (SeatInFile files narration role told)
seat_quiet files narration role told =
    then_quiet (then_quiet (file_quiet files narration NARRATION_LIMIT) branch_quiet) (λ (b : BranchedValue).
    then_quiet (role_quiet b role) (λ (u : Unit {0}).
    then_quiet (send_quiet b) (λ (v : Unit {0}).
    then_quiet (told_quiet b role told) (λ (w : Unit {0}). is_quiet _))))

pub branch_job_quiet : (files : Files) (narration role values : List ℕ) (told : Option ℕ) (host_seed : Option (List ℕ)) → RefusesQuietly (BranchJobIs files narration role values told host_seed)
branch_job_quiet files narration role values told host_seed =
    then_quiet (seat_quiet files narration role told) (λ (b : BranchedValue).
    then_quiet (values_in_file_quiet files values (known_in b role)) (λ (fitted : Fitted).
    then_quiet (seed_quiet (makes_in b role) fitted.seed host_seed) (λ (seed : List ℕ). is_quiet _)))
