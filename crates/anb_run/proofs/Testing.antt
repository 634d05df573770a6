-- What is owed where a program may be tested.
use Rattle.std.proofs.Common.{◌≡◌, ◌≢◌, ℕ, List, Option, Some, None, refl, sym, ◌∙◌, subst}
use Rattle.std.specs.Prelude.{◌↔◌}
use Rattle.anb_base.specs.Wires.{WireState}
use Rattle.anb_partner.specs.Trials.{Trial}
use Rattle.anb_store.specs.Stores.{StoreState}
use Rattle.anb_status.specs.declared.status.Status.{Status}
use Rattle.anb_status.specs.declared.status.Status.TheVariants.{Usage}
use Rattle.anb_words.specs.Words.{Asked}
use Rattle.anb_park_commands.specs.Words.{Recorded}
use Rattle.anb_record_commands.specs.Words.{Recording}
use Rattle.anb_stage_commands.specs.Words.{Staged}
use Rattle.anb_probe_commands.specs.Words.{Probed}
use Rattle.anb_run.specs.Programs.{HasTestCause, IsAskedTesting}

-- a test has a place
module _ (p : Probed) (faults faults_now : List ℕ → ℕ) (trials trials_now : ℕ → Trial) (old new : WireState) (store store_now : StoreState) where
  never_usage : (folder : Option (List ℕ)) → HasTestCause p trials trials_now old new store store_now Usage faults faults_now folder → ⊥
  never_usage None cause = let never = cause in cc
  never_usage (Some folder) cause = let never = cause in cc

  pub usage_testing : (recording : Option Recording) (kept : Option Recorded) (staged : Option Staged) (asked : Option Asked) (status : Status) (folder : Option (List ℕ))
      → HasTestCause p trials trials_now old new store store_now status faults faults_now folder → (status ≡ Usage) ↔ (IsAskedTesting (Some p) recording kept staged asked → ⊥)
  usage_testing recording kept staged asked status folder cause =
      (λ is. absurd (never_usage folder (subst (λ (s : Status). HasTestCause p trials trials_now old new store store_now s faults faults_now folder) is cause)), λ none. absurd (none tt))

-- a case that wasn't started isn't running
pub untested_phase : (trial : ℕ → Trial) → ((case : ℕ) → (trial case).phase ≡ 0) → (case : ℕ) → (trial case).phase ≢ 1
untested_phase trial untried case running = absurd (let never = sym (untried case) ∙ running in cc)
