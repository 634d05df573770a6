-- What `host` does where it serves, and where it refuses.
use Rattle.std.proofs.Common.{◌≡◌, ℕ, List, [], Option, Some, None, refl, sym, subst, inl, inr}
use Rattle.anb_base.specs.Bytes.{IsBytes}
use Rattle.anb_base.specs.Wires.{WireState}
use Rattle.anb_code.specs.CodeValue.{CodeValue}
use Rattle.anb_host.specs.declared.event.HostEvent.{HostEvent}
use Rattle.anb_host.specs.HostFrames.{Tail, FramesLeft, HostFrames}
use Rattle.anb_status.specs.declared.status.Status.{Status}
use Rattle.anb_command.specs.Fetches.{Files, IfTold}
use Rattle.anb_status.specs.Statuses.{before_reach, phase_of}
use Rattle.anb_command.specs.Steps.{Answer, refused, HasOneAnswer, IsFailure}
use Rattle.anb_command.proofs.Answering.{late, refusing}
use Rattle.anb_command.proofs.Chains.{told_map}
use Rattle.anb_command.proofs.Ones.{RefusesQuietly}
use Rattle.anb_role_commands.specs.Jobs.{IsRead, Job, JobIs}
use Rattle.anb_role_commands.specs.PlayCommand.{PlayOf}
use Rattle.anb_role_commands.specs.Playing.{IsPlayableInEach, play_in}
use Rattle.anb_host_commands.specs.HostCommand.{DoesHost, IsServing}
use Rattle.anb_host_commands.specs.Serving.{EndsSo, ServesOn, runs_by}
use Rattle.anb_host_commands.proofs.Ending.{ends_so, idles, nothing_served}
use Rattle.anb_host_commands.proofs.Sessions.{are_plays, runs_alike, runs_send_on}
use Rattle.anb_host_commands.proofs.Sizes.{events_bytes}

-- of an input that is told
from_told : (o : Option (List ℕ)) (P : List ℕ → Type 0) → ((x : List ℕ) → o ≡ Some x → P x) → IfTold o P
from_told None P f = tt
from_told (Some x) P f = f x refl

module _ (narration name values : List ℕ) (host_seed : Option (List ℕ)) (one : (files : Files) → HasOneAnswer (JobIs files narration name values host_seed))
    (quiet : (files : Files) → RefusesQuietly (JobIs files narration name values host_seed)) where
  abbrev Asks : Files → Answer Job → Type 0
  Asks files = JobIs files narration name values host_seed

  module _ (S T : WireState) (s : Status) (code : CodeValue) (initial : List (List ℕ)) (seed : List ℕ) (serves : ServesOn (runs_by code initial seed) S T s) (not_early : phase_of s ≡ before_reach → ⊥) where
    over_input : (files : Files) → IsPlayableInEach (Asks files) code initial seed → (left : List ℕ) → S.left ≡ Some left → (events : List HostEvent) (tail : Tail) → IsBytes left → HostFrames left events tail
        → IsServing (Asks files) left events tail S T s
    over_input files ready left is events tail bytes frames = elim serves [
      | inl idle ↦ idles (Asks files) (one files) ready.asked ready.asks (runs_by code initial seed) (play_in code initial seed) (are_plays ready.asked code initial seed ready.comes) (runs_alike ready.asked code initial seed ready.comes) (runs_send_on code initial seed)
          left events tail frames (events_bytes left events tail bytes frames) S T is s idle
      | inr served ↦ by (served events tail (subst (λ (l : Option (List ℕ)). FramesLeft l events tail) (sym is) frames))
    ] where
      by : EndsSo (runs_by code initial seed) [] events tail S T s → IsServing (Asks files) left events tail S T s
      by (end, status_is, serves) = subst (λ t. IsServing (Asks files) left events tail S T t) (sym status_is)
          (ends_so (Asks files) (one files) ready.asked ready.asks (runs_by code initial seed) (play_in code initial seed) (are_plays ready.asked code initial seed ready.comes) (runs_alike ready.asked code initial seed ready.comes) (runs_send_on code initial seed)
          left events tail frames (events_bytes left events tail bytes frames) S T is end serves)

    pub serves_host : (told : Option Files) → IfTold told (λ files. IsPlayableInEach (Asks files) code initial seed) → DoesHost narration name values told host_seed S T s
    serves_host told ready = record {
      refuses = told_map told (λ files (r : IsPlayableInEach (Asks files) code initial seed). late PlayOf (Asks files) (one files) (quiet files) (IsRead files narration name values) s r.asked r.asks not_early) ready;
      outcome = told_map told (λ files (r : IsPlayableInEach (Asks files) code initial seed). from_told S.left _ (λ left is events tail bytes frames. over_input files r left is events tail bytes frames)) ready;
    }

  pub refuses_host : (told : Option Files) (S : WireState) (s : Status) → IsFailure s (λ file. IfTold told (λ files. IsRead files narration name values file)) (IfTold told (λ files. Asks files (refused s)))
      → DoesHost narration name values told host_seed S S s
  refuses_host None S s fails = record { refuses = tt; outcome = tt }
  refuses_host (Some files) S s fails = record {
    refuses = refusing PlayOf (Asks files) (one files) (quiet files) (IsRead files narration name values) s fails;
    outcome = from_told S.left _ (λ left is events tail bytes frames. nothing_served (Asks files) (one files) (quiet files) left events tail S is s (λ file. IsRead files narration name values file) fails);
  }
