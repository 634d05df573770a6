-- What `branch` plays is what `play` plays of the narration of an arm.
use Rattle.std.specs.Prelude.{◌≡◌, ◌↔◌, ℕ, List, Option, Some, slice_get}
use Rattle.anb_frame.specs.Cuts.{Tail}
use Rattle.anb_protocol.specs.Protocols.{ProtocolValue}
use Rattle.anb_choice.specs.Branching.{BranchedText, straights}
use Rattle.anb_branch.specs.Taken.{place_taken}
use Rattle.anb_command.specs.declared.limits.TheConstants.{NARRATION_LIMIT}
use Rattle.anb_status.specs.declared.status.Status.{Status}
use Rattle.anb_command.specs.Fetches.{Files}
use Rattle.anb_command.specs.Files.{HasFile}
use Rattle.anb_command.specs.Outcomes.{Outcome}
use Rattle.anb_command.specs.Steps.{given}
use Rattle.anb_role_commands.specs.Jobs.{JobIs}
use Rattle.anb_role_commands.specs.PlayCommand.{PlayOf}
use Rattle.anb_branch_commands.specs.BranchCommand.{BranchPlayOf, job_in}
use Rattle.anb_branch_commands.specs.BranchJobs.{BranchJob, BranchJobIs}

-- Let a role of a text with a choice be played, and let the stem with one arm behind it stand in a
-- file. Then `play` of that file, with the same role, values file and seed, plays the same job in
-- that arm.
abbrev pub ArmsAreNarrations : Type 0
ArmsAreNarrations = (files : Files) (branched role values : List ℕ) (told : Option ℕ)
    → (host_seed : Option (List ℕ)) (job : BranchJob)
    → BranchJobIs files branched role values told host_seed (given job)
    → (text : List ℕ) → (tells : BranchedText text job.branched)
    → (place : ℕ) (arm : ProtocolValue) (straight : List ℕ)
    → slice_get job.branched.arms place ≡ Some arm
    → slice_get (straights text tells.marks tells.spans) place ≡ Some straight
    → (name : List ℕ) → HasFile files name NARRATION_LIMIT straight
    → JobIs files name role values host_seed (given (job_in job arm))

-- Let a role of a text with a choice be played, and let the stem with the arm that is taken over the
-- input's arrivals stand in a file. Then the outcomes of `branch` are those of `play` of that file,
-- with the same role, values file and seed, in both directions: the same status, the same bytes
-- written, and the same left.
abbrev pub ArmsArePlayed : Type 0
ArmsArePlayed = (files : Files) (branched role values : List ℕ) (told : Option ℕ)
    → (host_seed : Option (List ℕ)) (job : BranchJob)
    → BranchJobIs files branched role values told host_seed (given job)
    → (text : List ℕ) → (tells : BranchedText text job.branched)
    → (left : List ℕ) (arrivals : List (List ℕ)) (tail : Tail) (straight : List ℕ)
    → slice_get (straights text tells.marks tells.spans)
    (place_taken job.branched job.role job.told arrivals) ≡ Some straight
    → (name : List ℕ) → HasFile files name NARRATION_LIMIT straight
    → (status : Status) (out rest : List ℕ)
    → Outcome BranchPlayOf (BranchJobIs files branched role values told host_seed)
    left arrivals tail status out rest
    ↔ Outcome PlayOf (JobIs files name role values host_seed) left arrivals tail status out rest
