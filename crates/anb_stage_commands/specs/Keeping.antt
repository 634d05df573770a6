-- What is kept of a relay, before the report is written. For proofs alone.
use Rattle.std.specs.Prelude.{◌≡◌, ◌≢◌, ◌⊎◌, ℕ, true, false, List, length, Option, Result, Ok, Err}
use Rattle.anb_base.specs.declared.content.Sent.{Sent}
use Rattle.anb_recorded.specs.declared.ended.Missing.{Missing}
use Rattle.anb_recorded.specs.declared.ended.Missing.TheVariants as missing
use Rattle.anb_recording.specs.Journals.{OthersStay}
use Rattle.anb_stage.specs.Children.{Child}
use Rattle.anb_stage.specs.Notes.{Note, notes_of}
use Rattle.anb_stage.specs.Relays.{ends_in}
use Rattle.anb_store.specs.Stores.{StoreState}
use Rattle.anb_status.specs.declared.status.Status.{Status}
use Rattle.anb_status.specs.declared.status.Status.TheVariants.{NoMemory}
use Rattle.anb_command.specs.Fetches.{Files, IfTold}
use Rattle.anb_command.specs.Reported.{fails_by_file, is_file_fault}
use Rattle.anb_command.specs.Steps.{given, refused}
use Rattle.anb_stage_commands.specs.Records.{AreAll, AreNew, AreSoFar, IsOfStage, all_files, with_all}
use Rattle.anb_stage_commands.specs.Scenes.{Scene, SceneInFiles}
use Rattle.anb_stage_commands.specs.StageInto.{HasStageRecord, Misses, MissesOfStage, RecordsSoFar}
use Rattle.anb_stage_commands.specs.Telling.{Goes, all_names, all_put, put_all}
use Rattle.anb_stage_commands.specs.Words.{Staged}
use Rattle.anb_stage_commands.specs.declared.files.Both.{Both}
use Rattle.anb_stage_commands.specs.declared.record.Lack.{Lack}

module _ (limit : Option ℕ) (z : Scene) (old new : ℕ → Child) (files : List Both)
    (store store_now : StoreState) (before after : Lack) where
  -- what a log was told where a relay went through, or was refused
  abbrev pub WentThrough : Type 0
  WentThrough =
      (sent : List Sent) × AreAll z old sent
      × Goes files store store_now before after
      (put_all (all_names files) (notes_of (ends_in z.protocol) sent) (length sent))

  abbrev pub WentSoFar : Status → Type 0
  WentSoFar status =
      (told : List Note) × (status ≢ NoMemory → AreSoFar limit z old new told status)
      × Goes files store store_now before after (all_put (all_names files) told)

  abbrev pub WentOn : {T : Type 0} → Result T Status → Type 0
  WentOn (Ok text) = WentThrough
  WentOn (Err status) = WentSoFar status

-- there was no memory
abbrev pub IsShort : {T : Type 0} → Result T Status → Type 0
IsShort (Ok text) = ⊥
IsShort (Err status) = status ≡ NoMemory

module _ (limit : Option ℕ) (folder : List ℕ) (old new : ℕ → Child) (store store_now : StoreState) where
  -- none of a scene's files was there
  abbrev pub IsNewFor : Scene → Type 0
  IsNewFor z = AreNew store (all_files folder z.protocol.roles)

  -- the record of a scene is all there
  abbrev pub HasKept : {T : Type 0} → Scene → Result T Status → Type 0
  HasKept z (Ok text) =
      IsNewFor z × ((sent : List Sent) × AreAll z old sent × (store_now ≡ with_all folder z store sent))
  HasKept z (Err status) = status ≢ NoMemory
      → IsNewFor z × RecordsSoFar limit folder z old new store store_now status

  -- unless something is missing of it
  abbrev pub IsKeptOf : {T : Type 0} → Scene → Result T Status → Missing → Type 0
  IsKeptOf z outcome missed =
      Misses folder z.protocol.roles old new store store_now (IsShort outcome) missed
      × OthersStay (IsOfStage folder z.protocol.roles) store store_now
      × (missed ≡ missing.Nothing → HasKept z outcome)

-- The same of the scene in the files. What these refuse, or a fault of one, leaves the store.
pub record IsKept {T : Type 0} (s : Staged) (folder : List ℕ) (old new : ℕ → Child)
    (store store_now : StoreState) (told : Option Files) (outcome : Result T Status) (missed : Missing)
    : Type 0 where
  pub leaves : fails_by_file outcome ≡ true → store_now ≡ store
  pub refuses : IfTold told (λ files.
      (status : Status) → SceneInFiles files s (refused status) → store_now ≡ store)
  pub roles : List (List ℕ)
  pub why_missed : Misses folder roles old new store store_now (IsShort outcome) missed
  pub others : OthersStay (IsOfStage folder roles) store store_now
  pub recorded : IfTold told (λ files. (z : Scene) → SceneInFiles files s (given z)
      → fails_by_file outcome ≡ false
      → (((missed ≡ missing.Nothing) × (store_now ≡ store)) ⊎ (roles ≡ z.protocol.roles))
      × (missed ≡ missing.Nothing → HasKept s.limit folder old new store store_now z outcome))

-- the same behind the report, where the stage ended so
pub record EndsInto (s : Staged) (folder : List ℕ) (old new : ℕ → Child)
    (store store_now : StoreState) (told : Option Files) (end : Status) (missed : Missing) : Type 0 where
  pub leaves : is_file_fault end ≡ true → store_now ≡ store
  pub refuses : IfTold told (λ files.
      (status : Status) → SceneInFiles files s (refused status) → store_now ≡ store)
  pub roles : List (List ℕ)
  pub why_missed : MissesOfStage folder roles old new store store_now end missed
  pub others : OthersStay (IsOfStage folder roles) store store_now
  pub recorded : IfTold told (λ files. (z : Scene) → SceneInFiles files s (given z)
      → is_file_fault end ≡ false
      → (((missed ≡ missing.Nothing) × (store_now ≡ store)) ⊎ (roles ≡ z.protocol.roles))
      × (end ≢ NoMemory → missed ≡ missing.Nothing
      → HasStageRecord s.limit folder z old new store store_now end))
