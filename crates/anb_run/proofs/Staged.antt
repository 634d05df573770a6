-- What is owed where a stage may be recorded.
use Rattle.std.proofs.Common.{◌≡◌, ℕ, List, Option, Some, subst}
use Rattle.std.specs.Prelude.{◌↔◌}
use Rattle.anb_base.specs.Wires.{WireState}
use Rattle.anb_stage.specs.Children.{Child}
use Rattle.anb_store.specs.Stores.{StoreState}
use Rattle.anb_status.specs.declared.status.Status.{Status}
use Rattle.anb_status.specs.declared.status.Status.TheVariants.{Usage}
use Rattle.anb_words.specs.Words.{Asked}
use Rattle.anb_park_commands.specs.Words.{Recorded}
use Rattle.anb_record_commands.specs.Words.{Recording}
use Rattle.anb_stage_commands.specs.StageInto.{HasStageIntoCause}
use Rattle.anb_stage_commands.specs.Words.{Staged, StagedInto, staged_files}
use Rattle.anb_probe_commands.specs.Words.{Probed}
use Rattle.anb_session_commands.specs.Words.{Following}
use Rattle.anb_run.specs.Stagings.{IsAskedStaging}

-- a stage has a place
pub usage_staging : (s : StagedInto) (following : Option Following) (probed : Option Probed) (recording : Option Recording) (kept : Option Recorded) (staged : Option Staged) (asked : Option Asked)
    (store store_now : StoreState) (faults faults_now : List ℕ → ℕ) (children children_now : ℕ → Child) (old new : WireState) (status : Status)
    → HasStageIntoCause s.staged s.folder store store_now (staged_files s.staged) faults faults_now children children_now old new status
    → (status ≡ Usage) ↔ (IsAskedStaging following probed recording kept staged asked (Some s) → ⊥)
usage_staging s following probed recording kept staged asked store store_now faults faults_now children children_now old new status cause =
    (λ is. absurd (let never = subst (HasStageIntoCause s.staged s.folder store store_now (staged_files s.staged) faults faults_now children children_now old new) is cause in cc), λ none. absurd (none tt))
