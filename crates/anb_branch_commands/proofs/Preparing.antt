-- From the steps of the preparation to what is asked.
use Rattle.std.proofs.Common.{◌≡◌, ℕ, Bool, true, List, Option, Some, None, refl, sym, subst, inl, inr}
use Rattle.std.specs.Prelude.{All}
use Rattle.anb_plays.specs.Plays.{Run}
use Rattle.anb_index.specs.Places.{among}
use Rattle.anb_protocol.specs.Plays.{IsSendable}
use Rattle.anb_choice.specs.Lawful.{BranchedValue, IsLawful, roles_in}
use Rattle.anb_branch.specs.Taken.{IsTold, PlaysTaken}
use Rattle.anb_values.specs.declared.fitted.Fitted.{Fitted}
use Rattle.anb_status.specs.declared.status.Status.{Status}
use Rattle.anb_command.specs.Fetches.{Files, IfTold}
use Rattle.anb_command.specs.declared.limits.TheConstants.{NARRATION_LIMIT}
use Rattle.anb_command.specs.Files.{FileIs, ValuesInFile}
use Rattle.anb_command.specs.Prepared.{IsReady}
use Rattle.anb_command.specs.Seeds.{SeedIs}
use Rattle.anb_command.specs.Steps.{Answer, refused, given, InTurn, AnswersWith}
use Rattle.anb_command.proofs.Chains.{told_map}
use Rattle.anb_command.proofs.Ones.{not_both, same_given}
use Rattle.anb_command.proofs.Preparing.{told_both}
use Rattle.anb_branch_commands.specs.BranchCommand.{BranchPlayOf}
use Rattle.anb_branch_commands.specs.BranchJobs.{ArmsSend, BranchInFile, BranchIs, BranchJob, BranchJobIs, BranchJobOf, HasRole, IsReadToBranch, SeatInFile, SeatOf, ToldIs, known_in, makes_in}

-- ---- what a job has

-- the role is one of a lawful text in whose arms all can send, and is told what it may be
pub record IsSeat (b : BranchedValue) (role : List ℕ) (told : Option ℕ) : Type 0 where
  pub lawful : IsLawful b
  pub is_role : among (roles_in b) role ≡ true
  pub sendable : All IsSendable b.arms
  pub may : IsTold b role told

-- what a step gives that is followed by another
pub given_by : {A B : Type 0} (first : Answer A → Type 0) (next : A → Answer B → Type 0) (x : B) → InTurn first next (given x) → (a : A) × first (given a) × next a (given x)
given_by first next x (inl (s, never, is)) = not_both s x (sym is)
given_by first next x (inr step) = step

pub seat_has : (files : Files) (narration role : List ℕ) (told : Option ℕ) (b : BranchedValue) → SeatInFile files narration role told (given b) → IsSeat b role told
seat_has files narration role told b seat =
    let (read, in_file, of) = given_by (BranchInFile files narration) (SeatOf role told) b seat in
    let (text, holds, tells) = given_by (FileIs files narration NARRATION_LIMIT) BranchIs read in_file in
    let (u, is_role, sends) = given_by (HasRole read role) (λ u. InTurn (ArmsSend read) (λ v. InTurn (ToldIs read role told) (λ w. AnswersWith read))) b of in
    let (v, can, tolds) = given_by (ArmsSend read) (λ v. InTurn (ToldIs read role told) (λ w. AnswersWith read)) b sends in
    let (w, may, is) = given_by (ToldIs read role told) (λ w. AnswersWith read) b tolds in
    subst (λ (c : BranchedValue). IsSeat c role told) (sym (same_given b read is)) (record { lawful = tells.1; is_role = is_role; sendable = can; may = may })

pub job_seated : (files : Files) (narration role values : List ℕ) (told : Option ℕ) (host_seed : Option (List ℕ)) (job : BranchJob) → BranchJobIs files narration role values told host_seed (given job)
    → IsSeat job.branched job.role job.told
job_seated files narration role values told host_seed job asks =
    let (b, seat, of) = given_by (SeatInFile files narration role told) (BranchJobOf files role values told host_seed) job asks in
    let (fitted, fits, seeds) = given_by (ValuesInFile files values (known_in b role)) (λ f. InTurn (SeedIs (makes_in b role) f.seed host_seed) (λ s. AnswersWith (record { branched = b; role = role; told = told; initial = f.values; seed = s }))) job of in
    let (seed, has, is) = given_by (SeedIs (makes_in b role) fitted.seed host_seed) (λ s. AnswersWith (record { branched = b; role = role; told = told; initial = fitted.values; seed = s })) job seeds in
    let made : BranchJob = record { branched = b; role = role; told = told; initial = fitted.values; seed = seed } in
    subst (λ (j : BranchJob). IsSeat j.branched j.role j.told) (sym (same_given job made is)) (seat_has files narration role told b seat)

-- ---- all steps

module _ (told_files : Option Files) (narration role values : List ℕ) (told : Option ℕ) (host_seed : Option (List ℕ)) where
  pub no_branch : (s : Status) → IfTold told_files (λ files. BranchInFile files narration (refused s)) → IfTold told_files (λ files. BranchJobIs files narration role values told host_seed (refused s))
  no_branch s first = told_map told_files (λ files f. inl (s, inl (s, f, refl), refl)) first

  pub no_seat : (b : BranchedValue) (s : Status) → IfTold told_files (λ files. BranchInFile files narration (given b)) → SeatOf role told b (refused s)
      → IfTold told_files (λ files. BranchJobIs files narration role values told host_seed (refused s))
  no_seat b s first next = told_map told_files (λ files f. inl (s, inr (b, f, next), refl)) first

  pub job_answers : (b : BranchedValue) (answer : Answer BranchJob) → IfTold told_files (λ files. BranchInFile files narration (given b)) → SeatOf role told b (given b)
      → IfTold told_files (λ files. BranchJobOf files role values told host_seed b answer) → IfTold told_files (λ files. BranchJobIs files narration role values told host_seed answer)
  job_answers b answer first next last = told_both told_files (λ files f l. inr (b, inr (b, f, next), l)) first last

  pub narration_read : (file : List ℕ) → file ≡ narration → IfTold told_files (λ files. IsReadToBranch files narration role values told file)
  narration_read file is = by told_files where
    by : (t : Option Files) → IfTold t (λ files. IsReadToBranch files narration role values told file)
    by None = tt
    by (Some files) = inl is

  pub values_read : (b : BranchedValue) (file : List ℕ) → IfTold told_files (λ files. BranchInFile files narration (given b)) → SeatOf role told b (given b) → file ≡ values
      → IfTold told_files (λ files. IsReadToBranch files narration role values told file)
  values_read b file first next is = told_map told_files (λ files f. inr (is, (b, inr (b, f, next)))) first

-- ---- the values and the seed

module _ (told_files : Option Files) (role values : List ℕ) (told : Option ℕ) (host_seed : Option (List ℕ)) (b : BranchedValue) (names : List (List ℕ)) (are : names ≡ known_in b role) where
  pub values_refused : (s : Status) → IfTold told_files (λ files. ValuesInFile files values names (refused s)) → IfTold told_files (λ files. BranchJobOf files role values told host_seed b (refused s))
  values_refused s first = told_map told_files (λ files f. inl (s, subst (λ (ns : List (List ℕ)). ValuesInFile files values ns (refused s)) are f, refl)) first

  module _ (fitted : Fitted) (first : IfTold told_files (λ files. ValuesInFile files values names (given fitted))) (makes : Bool) (is : makes ≡ makes_in b role) where
    pub seed_refused : (s : Status) → SeedIs makes fitted.seed host_seed (refused s) → IfTold told_files (λ files. BranchJobOf files role values told host_seed b (refused s))
    seed_refused s next =
        told_map told_files (λ files f. inr (
          fitted,
          subst (λ (ns : List (List ℕ)). ValuesInFile files values ns (given fitted)) are f,
          inl (s, subst (λ (m : Bool). SeedIs m fitted.seed host_seed (refused s)) is next, refl),
        )) first

    pub means_given : (seed : List ℕ) → SeedIs makes fitted.seed host_seed (given seed)
        → IfTold told_files (λ files. BranchJobOf files role values told host_seed b (given (record { branched = b; role = role; told = told; initial = fitted.values; seed = seed })))
    means_given seed next =
        told_map told_files (λ files f. inr (
          fitted,
          subst (λ (ns : List (List ℕ)). ValuesInFile files values ns (given fitted)) are f,
          inr (seed, subst (λ (m : Bool). SeedIs m fitted.seed host_seed (given seed)) is next, refl),
        )) first

-- ---- a run

module _ (told_files : Option Files) (narration role values : List ℕ) (told : Option ℕ) (host_seed : Option (List ℕ)) (b : BranchedValue) (initial : List (List ℕ)) (seed : List ℕ) (R : Run) where
  pub job_ready : PlaysTaken b role told initial seed R → IfTold told_files (λ files. BranchJobIs files narration role values told host_seed (given (record { branched = b; role = role; told = told; initial = initial; seed = seed })))
      → IfTold told_files (λ files. IsReady BranchPlayOf (BranchJobIs files narration role values told host_seed) R)
  job_ready plays asks = told_map told_files (λ files is. record { asked = record { branched = b; role = role; told = told; initial = initial; seed = seed }; asks = is; comes = plays }) asks
