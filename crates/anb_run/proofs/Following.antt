-- What is owed where the session of a transcript may be said.
use Rattle.std.proofs.Common.{◌≡◌, ℕ, List, Option, Some, subst}
use Rattle.std.specs.Prelude.{◌↔◌}
use Rattle.anb_base.specs.Wires.{WireState}
use Rattle.anb_base.specs.declared.place.Place.TheVariants.{Stdio}
use Rattle.anb_status.specs.declared.status.Status.{Status}
use Rattle.anb_status.specs.declared.status.Status.TheVariants.{Usage}
use Rattle.anb_command.specs.Causes.{HasCause}
use Rattle.anb_words.specs.Words.{Asked, files_of}
use Rattle.anb_park_commands.specs.Words.{Recorded}
use Rattle.anb_record_commands.specs.Words.{Recording}
use Rattle.anb_stage_commands.specs.Words.{Staged}
use Rattle.anb_probe_commands.specs.Words.{Probed}
use Rattle.anb_session_commands.specs.Words.{Following, without_session}
use Rattle.anb_run.specs.Sessions.{IsAskedFollowing}

-- a transcript has a place
pub usage_following : (f : Following) (probed : Option Probed) (recording : Option Recording) (kept : Option Recorded) (staged : Option Staged) (asked : Option Asked) (faults faults_now : List ℕ → ℕ) (old new : WireState) (status : Status)
    → HasCause (files_of (Some (without_session f))) (Some Stdio) faults faults_now old new status
    → (status ≡ Usage) ↔ (IsAskedFollowing probed recording kept staged asked (Some f) → ⊥)
usage_following f probed recording kept staged asked faults faults_now old new status cause =
    (λ is. absurd (let never = subst (HasCause (files_of (Some (without_session f))) (Some Stdio) faults faults_now old new) is cause in cc), λ none. absurd (none tt))
