-- What `branch` does is what `play` does of the arm that is taken.
use Rattle.std.proofs.Common.{◌≡◌, ℕ, zero, suc, List, [], ◌∷◌, Option, Some, refl, subst, inl, inr}
use Rattle.std.specs.Prelude.{slice_get}
use Rattle.std.specs.List.{AllZip}
use Rattle.anb_frame.specs.Cuts.{Tail}
use Rattle.anb_read.specs.Laws.{NarrationsAreUnique, NoneIsBoth as NoTextIsBoth, RefusalsAreUnique as TextRefusalsAreUnique}
use Rattle.anb_protocol.specs.Protocols.{ProtocolValue}
use Rattle.anb_choice.specs.Branching.{BranchedText, Tells, straights}
use Rattle.anb_choice.specs.Laws.{ChoicesAreUnique, NoneIsBoth, RefusalsAreUnique}
use Rattle.anb_branch.specs.Taken.{place_taken}
use Rattle.anb_values.specs.Fit.{FitIsUnique}
use Rattle.anb_command.specs.declared.limits.TheConstants.{NARRATION_LIMIT}
use Rattle.anb_status.specs.declared.status.Status.{Status}
use Rattle.anb_command.specs.Fetches.{Files}
use Rattle.anb_command.specs.Files.{HasFile}
use Rattle.anb_command.specs.Outcomes.{IsPlayed, Outcome}
use Rattle.anb_command.specs.Steps.{Answer, refused, given}
use Rattle.anb_command.proofs.Ones.{not_both, same_given}
use Rattle.anb_role_commands.specs.Jobs.{Job, JobIs}
use Rattle.anb_role_commands.specs.PlayCommand.{PlayOf}
use Rattle.anb_role_commands.proofs.Tasks.{job_one}
use Rattle.anb_branch_commands.specs.BranchCommand.{BranchPlayOf, job_in}
use Rattle.anb_branch_commands.specs.BranchJobs.{BranchJob, BranchJobIs}
use Rattle.anb_branch_commands.specs.Laws.{ArmsAreNarrations, ArmsArePlayed}
use Rattle.anb_branch_commands.proofs.Tasks.{branch_job_one}

-- what pairs with an item stands at the same place
pair_at : {A B : Type 0} (R : A → B → Type 0) (xs : List A) (ys : List B) (i : ℕ) (x : A) → AllZip R xs ys → slice_get xs i ≡ Some x → (y : B) × (slice_get ys i ≡ Some y)
pair_at R [] ys i x z here = absurd (cc)
pair_at R (v ∷ xs) [] i x z here = absurd z
pair_at R (v ∷ xs) (w ∷ ys) zero x z here = (w, refl)
pair_at R (v ∷ xs) (w ∷ ys) (suc i) x z here = pair_at R xs ys i x z.1 here

same_some : {A : Type 0} (x y : A) → Some x ≡ Some y → x ≡ y
same_some x y e = cc

module _ (narrated : ArmsAreNarrations) (choices : ChoicesAreUnique) (refusals : RefusalsAreUnique) (none : NoneIsBoth)
    (narrations : NarrationsAreUnique) (text_refusals : TextRefusalsAreUnique) (no_text : NoTextIsBoth) (fits : FitIsUnique) where
  module _ (files : Files) (branched role values : List ℕ) (told : Option ℕ) (host_seed : Option (List ℕ)) (job : BranchJob)
      (asks : BranchJobIs files branched role values told host_seed (given job)) (text : List ℕ) (tells : BranchedText text job.branched)
      (left : List ℕ) (arrivals : List (List ℕ)) (tail : Tail) (straight : List ℕ)
      (here : slice_get (straights text tells.marks tells.spans) (place_taken job.branched job.role job.told arrivals) ≡ Some straight)
      (name : List ℕ) (file : HasFile files name NARRATION_LIMIT straight) (status : Status) (out rest : List ℕ) where
    abbrev place : ℕ
    place = place_taken job.branched job.role job.told arrivals

    abbrev Asked : Answer BranchJob → Type 0
    Asked = BranchJobIs files branched role values told host_seed

    abbrev Wanted : Answer Job → Type 0
    Wanted = JobIs files name role values host_seed

    once : (answer : Answer BranchJob) → Asked answer → answer ≡ given job
    once answer is = branch_job_one choices refusals none fits files branched role values told host_seed answer (given job) is asks

    wanted : (arm : ProtocolValue) → slice_get job.branched.arms place ≡ Some arm → Wanted (given (job_in job arm))
    wanted arm at = narrated files branched role values told host_seed job asks text tells place arm straight at here name file

    abbrev Played : Type 0
    Played = Outcome PlayOf Wanted left arrivals tail status out rest

    as_played : (j : BranchJob) → j ≡ job → IsPlayed BranchPlayOf j left arrivals tail status out rest → Played
    as_played j same played =
        let p = subst (λ (k : BranchJob). IsPlayed BranchPlayOf k left arrivals tail status out rest) same played in
        inr (
          job_in job p.plays.arm,
          wanted p.plays.arm p.plays.taken,
          record { play = p.play; plays = p.plays.plays; status_is = p.status_is; writes = p.writes; leaves = p.leaves },
        )

    as_play : Outcome BranchPlayOf Asked left arrivals tail status out rest → Played
    as_play (inl refusal) = not_both status job (once (refused status) refusal.refuses)
    as_play (inr (j, is, played)) = as_played j (same_given j job (once (given j) is)) played

    arm_there : (arm : ProtocolValue) × (slice_get job.branched.arms place ≡ Some arm)
    arm_there = pair_at Tells (straights text tells.marks tells.spans) job.branched.arms place straight tells.arms here

    play_once : (answer : Answer Job) → Wanted answer → answer ≡ given (job_in job arm_there.0)
    play_once answer is =
        job_one narrations text_refusals no_text fits files name role values host_seed answer (given (job_in job arm_there.0)) is (wanted arm_there.0 arm_there.1)

    of_played : (j : Job) → j ≡ job_in job arm_there.0 → IsPlayed PlayOf j left arrivals tail status out rest → Outcome BranchPlayOf Asked left arrivals tail status out rest
    of_played j same played =
        let p = subst (λ (k : Job). IsPlayed PlayOf k left arrivals tail status out rest) same played in
        inr (
          job,
          asks,
          record {
            play = p.play;
            plays = record { arm = arm_there.0; taken = arm_there.1; plays = p.plays };
            status_is = p.status_is;
            writes = p.writes;
            leaves = p.leaves;
          },
        )

    of_play : Played → Outcome BranchPlayOf Asked left arrivals tail status out rest
    of_play (inl refusal) = not_both status (job_in job arm_there.0) (play_once (refused status) refusal.refuses)
    of_play (inr (j, is, played)) = of_played j (same_given j (job_in job arm_there.0) (play_once (given j) is)) played

  pub arms_are_played : ArmsArePlayed
  arms_are_played files branched role values told host_seed job asks text tells left arrivals tail straight here name file status out rest = (
    as_play files branched role values told host_seed job asks text tells left arrivals tail straight here name file status out rest,
    of_play files branched role values told host_seed job asks text tells left arrivals tail straight here name file status out rest,
  )
