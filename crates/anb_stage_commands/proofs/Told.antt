-- The status that is told of a stage, from how it ended and from what is missing of its record.
use Rattle.std.proofs.Common.{◌≡◌, ◌⊎◌, ℕ, Bool, true, false, List, Option, Some, None, Ok, Err, refl, ap, sym, ◌∙◌, subst, inl, inr}
use Rattle.anb_base.specs.Moves.{Rose}
use Rattle.anb_base.specs.Wires.{WireState}
use Rattle.anb_base.specs.declared.place.Place.TheVariants.{Stdio}
use Rattle.anb_store.specs.Stores.{StoreState}
use Rattle.anb_status.specs.Statuses.{after_reach, at_any_time, at_reach, is_fault, phase_of}
use Rattle.anb_status.specs.declared.status.Status.{Status}
use Rattle.anb_status.specs.declared.status.Status.TheVariants.{Done, FileFault, Unreached, ReadFault, WriteFault, Unwritten, NoMemory}
use Rattle.anb_command.specs.Causes.{DidNotRise, HasWireCause}
use Rattle.anb_command.specs.Fetches.{Files, IfTold}
use Rattle.anb_command.specs.Reaches.{Reaches}
use Rattle.anb_command.specs.Reported.{TellsFaults, is_file_fault}
use Rattle.anb_command.specs.Steps.{given}
use Rattle.anb_command.specs.Touches.{Touches}
use Rattle.anb_command.specs.Writing.{IsWritten}
use Rattle.anb_command.proofs.Chains.{told_map}
use Rattle.anb_command.proofs.Reported.{calm_told}
use Rattle.anb_recorded.specs.Outcomes.{recorded_phase, told_as}
use Rattle.anb_recorded.specs.declared.ended.Missing.{Missing}
use Rattle.anb_recorded.specs.declared.ended.Missing.TheVariants as missing
use Rattle.anb_recorded.proofs.Telling.{any_time, calm_file, calm_place, touches_any}
use Rattle.anb_stage.specs.Children.{Child}
use Rattle.anb_stage_commands.specs.Keeping.{EndsInto, IsKept}
use Rattle.anb_stage_commands.specs.Scenes.{Scene, SceneInFiles}
use Rattle.anb_stage_commands.specs.StageCommand.{CompletesStage, HasStageCause}
use Rattle.anb_stage_commands.specs.StageInto.{CompletesStageInto, HasStageIntoCause, IsOfWriting, IsTaken, IsTakenAs, Misses, MissesOfStage}
use Rattle.anb_stage_commands.specs.Words.{Staged}

-- ---- how a stage ended

module _ (s : Staged) (folder : List ℕ) (old new : ℕ → Child) (a b : StoreState) (told : Option Files) (missed : Missing) where
  missed_any : (roles : List (List ℕ)) (Short : Type 0) (m : Missing) → Misses folder roles old new a b ⊥ m → Misses folder roles old new a b Short m
  missed_any roles Short missing.Nothing is = is
  missed_any roles Short missing.NoMemory is = is
  missed_any roles Short (missing.Unwritten name) is = is
  missed_any roles Short (missing.There name) is = absurd is.1

  pub ends_written : {T : Type 0} (text : T) (end : Status) → is_file_fault end ≡ false → IsOfWriting end → IsKept {T = T} s folder old new a b told (Ok text) missed → EndsInto s folder old new a b told end missed
  ends_written text end quiet wrote k = record {
    leaves = λ is. let never : true ≡ false = sym is ∙ quiet in absurd cc;
    refuses = k.refuses;
    roles = k.roles;
    why_missed = missed_any k.roles (end ≡ NoMemory) missed k.why_missed;
    others = k.others;
    recorded = told_map told (λ files r. λ z g calm. let x = r z g refl in (x.0, λ some nothing. let y = x.1 nothing in (y.0, inl (wrote, y.1)))) k.recorded;
  }

  pub ends_refused : {T : Type 0} (end : Status) → IsKept {T = T} s folder old new a b told (Err end) missed → EndsInto s folder old new a b told end missed
  ends_refused end k = record {
    leaves = k.leaves;
    refuses = k.refuses;
    roles = k.roles;
    why_missed = k.why_missed;
    others = k.others;
    recorded = told_map told (λ files r. λ z g calm. let x = r z g calm in (x.0, λ some nothing. let y = x.1 nothing some in (y.0, inr y.1))) k.recorded;
  }

pub written_quiet : (S T : WireState) (status : Status) → HasWireCause (Some Stdio) S T status → is_file_fault status ≡ false
written_quiet S T (FileFault file) never = absurd never
written_quiet S T _ cause = refl

pub of_writing : (text : List ℕ) (status : Status) (w now : Option (List ℕ)) → IsWritten text status w now → IsOfWriting status
of_writing text Done w now is = tt
of_writing text WriteFault w now is = tt
of_writing text (Unreached place) w now is = tt
of_writing text _ w now never = absurd never

-- ---- what is told

memory_place : (s : Status) → s ≡ NoMemory → phase_of s ≡ at_reach → ⊥
memory_place s is at = let never : at_any_time ≡ at_reach = ap phase_of (sym is) ∙ at in cc

module _ (folder : List ℕ) (roles : List (List ℕ)) (old new : ℕ → Child) (a b : StoreState) (end : Status) (missed : Missing)
    (why : MissesOfStage folder roles old new a b end missed) where
  -- what holds of the status that is told
  told_by : (P : Status → Type 0) → P end
      → ((name : List ℕ) → is_fault end ≡ false → Rose a.faults b.faults → P (Unwritten name))
      → (is_fault end ≡ false → P NoMemory)
      → ((name : List ℕ) → missed ≡ missing.There name → IsTaken folder roles a b name → end ≡ NoMemory → P (Unwritten name))
      → P (told_as end missed)
  told_by P by_end by_file by_memory by_there = of missed refl why where
    of : (m : Missing) → missed ≡ m → MissesOfStage folder roles old new a b end m → P (told_as end m)
    of missing.Nothing same is = by_end
    of (missing.There name) same is = by_there name same is.0 is.1
    of (missing.Unwritten name) same is = fault (is_fault end) refl where
      fault : (t : Bool) → is_fault end ≡ t → P (told_as end (missing.Unwritten name))
      fault true e = rw e by_end
      fault false e = rw e (by_file name e is.1)
    of missing.NoMemory same is = fault (is_fault end) refl where
      fault : (t : Bool) → is_fault end ≡ t → P (told_as end missing.NoMemory)
      fault true e = rw e by_end
      fault false e = rw e (by_memory e)

  module _ (s : Staged) (names : List (List ℕ)) (faults faults_now : List ℕ → ℕ) (S T : WireState) where
    own_cause : (t : Status) → HasStageCause s.limit names faults faults_now old new S T t → HasStageIntoCause s folder a b names faults faults_now old new S T t
    own_cause (Unwritten name) never = absurd never
    own_cause _ cause = cause

    pub told_cause : HasStageCause s.limit names faults faults_now old new S T end → HasStageIntoCause s folder a b names faults faults_now old new S T (told_as end missed)
    told_cause cause =
        told_by (HasStageIntoCause s folder a b names faults faults_now old new S T) (own_cause end cause) (λ name calm rose. inr rose) (λ calm. tt)
        (λ name same taken is. inl (roles, (name, refl, taken)))

    memory_told : (t : Status) → TellsFaults faults faults_now S T NoMemory → is_file_fault t ≡ false → TellsFaults faults faults_now S T t
    memory_told t was quiet = record {
      files = λ _. was.files refl;
      wire = record {
        reads = λ rose. absurd (let never : NoMemory ≡ ReadFault = was.wire.reads rose in cc);
        writes = λ rose. absurd (let never : NoMemory ≡ WriteFault = was.wire.writes rose in cc);
        reaches = λ rose. absurd (let x = was.wire.reaches rose in let never : NoMemory ≡ Unreached x.0 = x.1 in cc);
      };
    }

    pub told_faults : TellsFaults faults faults_now S T end → TellsFaults faults faults_now S T (told_as end missed)
    told_faults was =
        told_by (TellsFaults faults faults_now S T) was
        (λ name calm rose. record { files = λ _. was.files (calm_file end calm); wire = calm_told S T end calm was.wire (Unwritten name) })
        (λ calm. record { files = λ _. was.files (calm_file end calm); wire = calm_told S T end calm was.wire NoMemory })
        (λ name same taken is. memory_told (Unwritten name) (subst (TellsFaults faults faults_now S T) is was) refl)

    own_reach : (t : Status) → Reaches (Some Stdio) (phase_of t) S.reached T.reached → Reaches (Some Stdio) (recorded_phase t) S.reached T.reached
    own_reach (Unwritten name) is = inr is
    own_reach _ is = is

    pub told_reaches : Reaches (Some Stdio) (phase_of end) S.reached T.reached → Reaches (Some Stdio) (recorded_phase (told_as end missed)) S.reached T.reached
    told_reaches reaches =
        let any = any_time Stdio (phase_of end) S.reached T.reached reaches in
        told_by (λ t. Reaches (Some Stdio) (recorded_phase t) S.reached T.reached) (own_reach end reaches) (λ name calm rose. any) (λ calm. any) (λ name same taken is. any)

    own_touches : (t : Status) → Touches false (phase_of t) S T → Touches false (recorded_phase t) S T
    own_touches (Unwritten name) touches = touches_any S T after_reach (λ is. cc) touches
    own_touches _ touches = touches

    pub told_touches : Touches false (phase_of end) S T → Touches false (recorded_phase (told_as end missed)) S T
    told_touches touches =
        told_by (λ t. Touches false (recorded_phase t) S T) (own_touches end touches)
        (λ name calm rose. touches_any S T (phase_of end) (calm_place end calm) touches)
        (λ calm. touches_any S T (phase_of end) (calm_place end calm) touches)
        (λ name same taken is. touches_any S T (phase_of end) (memory_place end is) touches)

    -- the files are those of the roles of the scene
    abbrev AreThese : Files → Type 0
    AreThese files = (z : Scene) → SceneInFiles files s (given z) → is_file_fault end ≡ false → (((missed ≡ missing.Nothing) × (b ≡ a)) ⊎ (roles ≡ z.protocol.roles))

    these : (z : Scene) (name : List ℕ) → missed ≡ missing.There name → (((missed ≡ missing.Nothing) × (b ≡ a)) ⊎ (roles ≡ z.protocol.roles))
        → IsTaken folder roles a b name → IsTaken folder z.protocol.roles a b name
    these z name there either taken = elim either [
      | inl nothing ↦ absurd (let never : missing.There name ≡ missing.Nothing = sym there ∙ nothing.0 in cc)
      | inr same ↦ subst (λ (r : List (List ℕ)). IsTaken folder r a b name) same taken
    ]

    memory_quiet : end ≡ NoMemory → is_file_fault end ≡ false
    memory_quiet is = ap is_file_fault is

    -- where nothing failed
    pub told_completes : (told : Option Files) (w now : Option (List ℕ)) → DidNotRise a.faults b.faults → IfTold told AreThese → CompletesStage s old told end
        → CompletesStageInto s folder old new w now a b (told_as end missed) told
    told_completes None w now calm are completes = tt
    told_completes (Some files) w now calm are completes = λ z g well.
        told_by (λ t. (t ≡ Done) ⊎ ((t ≡ NoMemory) ⊎ IsTakenAs folder z.protocol.roles a b t))
        (elim (completes z g well) [ inl done ↦ inl done | inr short ↦ inr (inl short) ])
        (λ name quiet rose. absurd (calm rose))
        (λ quiet. inr (inl refl))
        (λ name same taken is. inr (inr (name, refl, these z name same (are z g (memory_quiet is)) taken)))
