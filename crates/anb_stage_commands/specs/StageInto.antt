-- What `stage` with a folder does: what it does without, and a record of it in the folder.
use Rattle.std.specs.Prelude.{◌≡◌, ◌≢◌, ◌⊎◌, ℕ, ◌<◌, true, false, List, take, Option}
use Rattle.anb_base.specs.Moves.{Rose}
use Rattle.anb_base.specs.Wires.{WireState}
use Rattle.anb_base.specs.declared.content.Sent.{Sent}
use Rattle.anb_recording.specs.Journals.{IsThere, OthersStay}
use Rattle.anb_recorded.specs.Outcomes.{told_as}
use Rattle.anb_recorded.specs.declared.ended.Missing.{Missing}
use Rattle.anb_recorded.specs.declared.ended.Missing.TheVariants as missing
use Rattle.anb_stage.specs.Children.{Child}
use Rattle.anb_stage.specs.Notes.{Note}
use Rattle.anb_store.specs.Stores.{StoreState}
use Rattle.anb_status.specs.declared.status.Status.{Status}
use Rattle.anb_status.specs.declared.status.Status.TheVariants.{Done, Unreached, WriteFault, NoMemory, Unwritten}
use Rattle.anb_command.specs.Fetches.{Files, IfTold}
use Rattle.anb_command.specs.Reported.{is_file_fault}
use Rattle.anb_command.specs.Steps.{given, refused}
use Rattle.anb_stage_commands.specs.Records.{AreAll, AreNew, AreSoFar, IsAt, IsOfStage, all_files, all_made, with_all, with_notes}
use Rattle.anb_stage_commands.specs.Scenes.{Scene, SceneInFiles}
use Rattle.anb_stage_commands.specs.StageCommand.{AllGoWell, DoesStage, HasStageCause}
use Rattle.anb_stage_commands.specs.Words.{Staged}

module _ (folder : List ℕ) (roles : List (List ℕ)) (store store_now : StoreState) where
  -- A file is there already. None of those before it was, these were made, and nothing else was done.
  abbrev pub IsTaken : (name : List ℕ) → Type 0
  IsTaken name =
      (place : ℕ) × IsAt folder roles place name
      × AreNew store (take place (all_files folder roles))
      × (store_now ≡ all_made store (take place (all_files folder roles))) × IsThere store_now name

  -- and that is told
  abbrev pub IsTakenAs : Status → Type 0
  IsTakenAs status = (name : List ℕ) × (status ≡ Unwritten name) × IsTaken name

-- this is so of the files for some roles
abbrev pub IsTakenSomewhere : (folder : List ℕ) → (store store_now : StoreState) → Status → Type 0
IsTakenSomewhere folder store store_now status =
    (roles : List (List ℕ)) × IsTakenAs folder roles store store_now status

module _ (folder : List ℕ) (roles : List (List ℕ)) (old new : ℕ → Child) (store store_now : StoreState) where
  -- Why something is missing. Where a file is there already no child is started, and the stage ends by itself
  -- for want of memory. One that couldn't be written is counted by the store, and else nothing was counted: so
  -- a fault of the store is told.
  abbrev pub Misses : (Short : Type 0) → Missing → Type 0
  Misses Short missing.Nothing = store_now.faults ≡ store.faults
  Misses Short missing.NoMemory = store_now.faults ≡ store.faults
  Misses Short (missing.Unwritten name) = IsOfStage folder roles name × Rose store.faults store_now.faults
  Misses Short (missing.There name) =
      IsTaken folder roles store store_now name × Short × (store_now.faults ≡ store.faults)
      × ((role : ℕ) → role < 32 → new role ≡ old role)

  abbrev pub MissesOfStage : (end : Status) → Missing → Type 0
  MissesOfStage end = Misses (end ≡ NoMemory)

-- the report of a relay that went through was written, or that failed; no relay is refused so
abbrev pub IsOfWriting : (end : Status) → Type 0
IsOfWriting Done = Unit {0}
IsOfWriting WriteFault = Unit {0}
IsOfWriting (Unreached place) = Unit {0}
IsOfWriting end = ⊥

module _ (limit : Option ℕ) (folder : List ℕ) (z : Scene) (old new : ℕ → Child)
    (store store_now : StoreState) where
  -- the record of a relay that went through, and of one that was refused
  abbrev pub RecordsAll : (end : Status) → Type 0
  RecordsAll end =
      IsOfWriting end
      × ((sent : List Sent) × AreAll z old sent × (store_now ≡ with_all folder z store sent))

  abbrev pub RecordsSoFar : (end : Status) → Type 0
  RecordsSoFar end =
      (told : List Note) × AreSoFar limit z old new told end × (store_now ≡ with_notes folder z store told)

  -- it is all there, and none of its files was
  abbrev pub HasStageRecord : (end : Status) → Type 0
  HasStageRecord end =
      AreNew store (all_files folder z.protocol.roles) × (RecordsAll end ⊎ RecordsSoFar end)

module _ (s : Staged) (folder : List ℕ) (old new : ℕ → Child) (written written_now : Option (List ℕ))
    (store store_now : StoreState) (status : Status) where
  -- The stage ends as without a folder, and that end is told, unless something is missing of the record.
  -- Where nothing is, it is all there. What the files refuse, or a fault of one, leaves the store.
  pub record DoesStageInto (told : Option Files) : Type 0 where
    pub end : Status
    pub missed : Missing
    pub does : DoesStage s old new written written_now told end
    pub told_so : status ≡ told_as end missed
    pub leaves : is_file_fault end ≡ true → store_now ≡ store
    pub refuses : IfTold told (λ files.
        (status : Status) → SceneInFiles files s (refused status) → store_now ≡ store)
    -- something is missing of the files for these roles, which are those of the narration
    pub roles : List (List ℕ)
    pub why_missed : MissesOfStage folder roles old new store store_now end missed
    -- whatever is missing, no other file is touched
    pub others : OthersStay (IsOfStage folder roles) store store_now
    pub recorded : IfTold told (λ files. (z : Scene) → SceneInFiles files s (given z)
        → is_file_fault end ≡ false
        → (((missed ≡ missing.Nothing) × (store_now ≡ store)) ⊎ (roles ≡ z.protocol.roles))
        × (end ≢ NoMemory → missed ≡ missing.Nothing
        → HasStageRecord s.limit folder z old new store store_now end))

  -- where nothing fails and no file is there already, all is done
  abbrev pub CompletesStageInto : Option Files → Type 0
  CompletesStageInto told = IfTold told (λ files.
      (z : Scene) → SceneInFiles files s (given z) → AllGoWell z old
      → (status ≡ Done)
      ⊎ ((status ≡ NoMemory) ⊎ IsTakenAs folder z.protocol.roles store store_now status))

-- why a fault is answered
module _ (s : Staged) (folder : List ℕ) (store store_now : StoreState)
    (names : List (List ℕ)) (faults faults_now : List ℕ → ℕ)
    (old new : ℕ → Child) (wire wire_now : WireState) where
  abbrev pub HasStageIntoCause : Status → Type 0
  HasStageIntoCause (Unwritten name) =
      IsTakenSomewhere folder store store_now (Unwritten name) ⊎ Rose store.faults store_now.faults
  HasStageIntoCause status = HasStageCause s.limit names faults faults_now old new wire wire_now status
