-- What `probe` with a folder does: what it does without, and a record of it in the folder.
use Rattle.std.specs.Prelude.{◌≡◌, ◌≢◌, ◌⊎◌, ℕ, ◌+◌, List, length, Option}
use Rattle.anb_base.specs.Moves.{Rose}
use Rattle.anb_base.specs.Wires.{WireState}
use Rattle.anb_command.specs.Fetches.{Files, IfTold}
use Rattle.anb_command.specs.Steps.{given}
use Rattle.anb_partner.specs.Trials.{Trial}
use Rattle.anb_recorded.specs.Outcomes.{AreAbsent, IsMissing, IsTaken, told_as}
use Rattle.anb_recorded.specs.declared.ended.Missing.{Missing}
use Rattle.anb_recorded.specs.declared.ended.Missing.TheVariants as missing
use Rattle.anb_recording.specs.Journals.{IsThere}
use Rattle.anb_status.specs.Statuses.{Phase, at_any_time, before_reach}
use Rattle.anb_status.specs.declared.status.Status.{Status}
use Rattle.anb_status.specs.declared.status.Status.TheVariants.{ChildFault, NoMemory, Unwritten}
use Rattle.anb_store.specs.Stores.{StoreState}
use Rattle.anb_values_commands.specs.RoleValuesCommand.{RoleValuesText}
use Rattle.anb_probe_commands.specs.Plays.{ArePlayed, CaseEnd, IsNotStarted}
use Rattle.anb_probe_commands.specs.Probings.{Probing}
use Rattle.anb_probe_commands.specs.ProbeCommand.{Asks, CompletesProbe, DoesProbe, HasProbeCause, Suit, agenda_of, probe_phase}
use Rattle.anb_probe_commands.specs.Records.{HoldsCases, IsOfRecord}
use Rattle.anb_probe_commands.specs.Words.{Probed, order_of}

-- the child behind the cases that were played: starting it failed where that is told, and else it is as it was
abbrev pub IsNext : (end : Status) → (old new : Trial) → Type 0
IsNext (ChildFault name) old new = IsNotStarted old new
IsNext end old new = new ≡ old

-- a status comes when that of the command may; that of a file that can't be written comes before anything is started, or in
-- the end
abbrev pub into_phase : Status → Phase
into_phase (Unwritten name) = at_any_time
into_phase status = probe_phase status

module _ (asked : Probed) (folder : List ℕ) (told : Option Files) (host_seed : Option (List ℕ)) (old new : ℕ → Trial) (S T : WireState)
    (store store_now : StoreState) where
  -- The record is all there: the values that `values` writes for the role, and the transcripts of the cases that were played
  -- and came to these ends. None but these was.
  pub record HasRecord (files : Files) (end : Status) : Type 0 where
    pub values : List ℕ
    pub own : RoleValuesText files asked.narration asked.role asked.values (given values)
    pub q : Probing
    pub asks : Asks asked told host_seed old new S T files q
    pub suit : Suit q asked.trying
    pub reached : ℕ
    pub ends : List CaseEnd
    pub played : ArePlayed q (agenda_of suit).scenes (order_of asked.trying) (agenda_of suit).cases reached ends (length ends + 1) old new
    pub next : IsNext end (old (length ends)) (new (length ends))
    pub holds : HoldsCases folder store store_now values ends

  abbrev pub IsRecorded : (end : Status) → Type 0
  IsRecorded end = IfTold told (λ files. HasRecord files end)

  module _ (status : Status) where
    -- It ends as without a folder, and that end is told, unless something is missing of the record. Where nothing is, it is
    -- all there.
    pub record DoesProbeInto : Type 0 where
      pub end : Status
      pub missed : Missing
      pub does : DoesProbe asked told host_seed old new S T end
      pub told_so : status ≡ told_as end missed
      pub why_missed : IsMissing (IsOfRecord folder) store store_now S T end missed
      -- a child is started, and something written, only where none of the files was there
      pub fresh : ((new ≡ old) × (T ≡ S)) ⊎ AreAbsent (IsOfRecord folder) store
      -- what is refused leaves the store
      pub leaves : probe_phase end ≡ before_reach → store_now ≡ store
      pub recorded : (probe_phase end ≡ before_reach → ⊥) → end ≢ NoMemory → missed ≡ missing.Nothing → IsRecorded end

    -- Where nothing failed one of the files is there already: that is told, and nothing is done. Or all is done as without a
    -- folder, or memory was wanting, and the record is all there.
    abbrev pub CompletesProbeInto : Type 0
    CompletesProbeInto =
        IsTaken S T (IsOfRecord folder) store store_now status
        ⊎ (CompletesProbe asked told host_seed old new S T status
        × ((probe_phase status ≡ before_reach → ⊥) → status ≢ NoMemory → IsRecorded status))

-- why a fault is answered
module _ (folder : List ℕ) (store store_now : StoreState) (names : List (List ℕ)) (faults faults_now : List ℕ → ℕ)
    (old new : ℕ → Trial) (S T : WireState) where
  abbrev pub HasProbeIntoCause : Status → Type 0
  HasProbeIntoCause (Unwritten name) =
      IsOfRecord folder name × (IsThere store name ⊎ Rose store.faults store_now.faults)
  HasProbeIntoCause status = HasProbeCause names faults faults_now old new S T status
