-- What the relay of a protocol comes to, as a command.
use Rattle.std.proofs.Common.{◌≡◌, ℕ, Bool, true, false, ◌<◌, ◌≤◌, ◌⊎◌, List, [], length, get_or, Option, Some, None, IfSome, refl, sym, ap, ◌∙◌, subst, inl, inr, arith}
use Rattle.anb_base.specs.Moves.{Rose}
use Rattle.anb_base.specs.Wires.{WireState}
use Rattle.anb_base.specs.declared.place.Place.TheVariants.{Stdio}
use Rattle.anb_base.specs.declared.content.Sent.{Sent}
use Rattle.anb_frame.specs.Cuts.{Tail}
use Rattle.anb_read.specs.Laws.{NarrationsAreUnique, RefusalsAreUnique, NoneIsBoth}
use Rattle.anb_protocol.specs.Protocols.{ProtocolValue}
use Rattle.anb_stage.specs.Children.{Child}
use Rattle.anb_stage.specs.Relays.{AreCut, IsRefused, IsRelayed, ends_in, report}
use Rattle.anb_stage.specs.declared.refusal.RelayNo.{RelayNo}
use Rattle.anb_stage.specs.declared.refusal.RelayNo.TheVariants as no
use Rattle.anb_values.specs.Fit.{FitIsUnique}
use Rattle.anb_status.specs.declared.status.Status.{Status}
use Rattle.anb_status.specs.declared.status.Status.TheVariants.{Done, Usage, FileFault, Unreached, ReadFault, WriteFault, ChildFault, ChildSilent, Unwritten, NoMemory}
use Rattle.anb_status.specs.Statuses.{IsEarly}
use Rattle.anb_command.specs.Causes.{HasWireCause, NoneRose}
use Rattle.anb_command.specs.Fetches.{Files, IfTold, IsOneOf}
use Rattle.anb_command.specs.Steps.{IsFailure, given, refused}
use Rattle.anb_command.specs.Writing.{IsWritten}
use Rattle.anb_command.proofs.Chains.{told_map}
use Rattle.anb_command.proofs.Ones.{not_both, same_given}
use Rattle.anb_stage_commands.proofs.Casting.{scene_one}
use Rattle.anb_stage_commands.specs.Reports.{report_text}
use Rattle.anb_stage_commands.specs.Scenes.{IsReadForScene, Scene, SceneInFiles}
use Rattle.anb_stage_commands.specs.Words.{Staged, staged_files}
use Rattle.anb_stage_commands.specs.StageCommand.{AllGoWell, CompletesStage, HasStageCause, IsIdle, IsRefusedAs, IsRelayedAs, IsReport, IsStaged, NoChildRose, fault_status, status_after}
use Rattle.anb_stage_commands.specs.Relaying.{FailsInFile, FailsRelaying, HasCauseBefore, HasChildCause, IsBefore, Relays, RelaysInFile, Stay}

-- ---- a refusal

fault_before : (name : List ℕ) (limit : Option ℕ) (silent : Bool) → IsBefore (fault_status name limit silent)
fault_before name None silent = inl (refl, λ e. cc)
fault_before name (Some seconds) false = inl (refl, λ e. cc)
fault_before name (Some seconds) true = inl (refl, λ e. cc)

-- the cause of a status of a fault
module _ (limit : Option ℕ) (old new : ℕ → Child) (name : List ℕ) (role : ℕ) (within : role < 32) (rose : Rose (old role).faults (new role).faults) where
  fault_caused : (status : Status) → status ≡ fault_status name limit (new role).silent → (l : Option ℕ) (silent : Bool) → status ≡ fault_status name l silent → HasChildCause limit old new status
  fault_caused status is None silent e = subst (HasChildCause limit old new) (sym e) (role, within, rose, sym e ∙ is)
  fault_caused status is (Some seconds) false e = subst (HasChildCause limit old new) (sym e) (role, within, rose, sym e ∙ is)
  fault_caused status is (Some seconds) true e = subst (HasChildCause limit old new) (sym e) (role, within, rose, sym e ∙ is)

cause_of : (p : ProtocolValue) (n : ℕ) (limit : Option ℕ) (old new : ℕ → Child) (words : List (List (List ℕ))) (r : RelayNo) → n ≤ 32
    → IsRefused n old new words (ends_in p) r → HasChildCause limit old new (status_after limit new p r)
cause_of p n limit old new words (no.Fault role) few is =
    fault_caused limit old new (get_or p.roles role []) role (omega (arith, is.cause.0, few)) is.cause.1 _ refl limit (new role).silent refl
cause_of p n limit old new words (no.Bad role status) few is = tt
cause_of p n limit old new words (no.Ended action) few is = tt
cause_of p n limit old new words (no.Cut action have need) few is = tt
cause_of p n limit old new words (no.Long action len) few is = tt
cause_of p n limit old new words no.NoMemory few is = tt

module _ (s : Staged) (old new : ℕ → Child) (p : Scene) (n : ℕ) (words : List (List (List ℕ))) (count : n ≡ length p.protocol.roles) (asked : words ≡ p.asked) where
  pub refuses_as : (r : RelayNo) (status : Status) → IsRefused n old new words (ends_in p.protocol) r → status ≡ status_after s.limit new p.protocol r → FailsRelaying s old new p status
  refuses_as r status is same = inl (record {
    refusal = r;
    is = same;
    refuses = subst (λ (m : ℕ). IsRefused m old new (p.asked) (ends_in p.protocol) r) count (subst (λ (ws : List (List (List ℕ))). IsRefused n old new ws (ends_in p.protocol) r) asked is);
  })

  pub relays_by : (text : List ℕ) (sent : List Sent) → IsRelayed n old new words (ends_in p.protocol)
      → ((outputs : ℕ → List (List ℕ)) (tails : ℕ → Tail) → AreCut n old outputs tails → sent ≡ report outputs (ends_in p.protocol))
      → text ≡ report_text sent → Relays s old new p text
  relays_by text sent is tells written = record {
    relays = subst (λ (m : ℕ). IsRelayed m old new (p.asked) (ends_in p.protocol)) count (subst (λ (ws : List (List (List ℕ))). IsRelayed n old new ws (ends_in p.protocol)) asked is);
    tells = λ outputs tails cut. written ∙ ap report_text (tells outputs tails (subst (λ (m : ℕ). AreCut m old outputs tails) (sym count) cut));
  }

before_of : (limit : Option ℕ) (children : ℕ → Child) (p : ProtocolValue) (r : RelayNo) → IsBefore (status_after limit children p r)
before_of limit children p (no.Fault role) = fault_before (get_or p.roles role []) limit (children role).silent
before_of limit children p (no.Bad role status) = inl (refl, λ e. cc)
before_of limit children p (no.Ended action) = inl (refl, λ e. cc)
before_of limit children p (no.Cut action have need) = inl (refl, λ e. cc)
before_of limit children p (no.Long action len) = inl (refl, λ e. cc)
before_of limit children p no.NoMemory = inr refl

pub before_status : (limit : Option ℕ) (children : ℕ → Child) (p : ProtocolValue) (r : RelayNo) (status : Status) → status ≡ status_after limit children p r → IsBefore status
before_status limit children p r status is = subst IsBefore (sym is) (before_of limit children p r)

pub cause_status : (p : ProtocolValue) (n : ℕ) (limit : Option ℕ) (old new : ℕ → Child) (words : List (List (List ℕ))) (r : RelayNo) (status : Status) → n ≤ 32
    → IsRefused n old new words (ends_in p) r → status ≡ status_after limit new p r → HasChildCause limit old new status
cause_status p n limit old new words r status few refuses is = subst (HasChildCause limit old new) (sym is) (cause_of p n limit old new words r few refuses)

-- the cause of a refusal before the relay is one of all
pub cause_before : (s : Staged) (old new : ℕ → Child) (faults faults_now : List ℕ → ℕ) (status : Status) → HasChildCause s.limit old new status → HasCauseBefore s old new faults faults_now status
cause_before s old new faults faults_now (ChildFault name) cause = cause
cause_before s old new faults faults_now (ChildSilent name seconds) cause = cause
cause_before s old new faults faults_now (FileFault file) never = absurd never
cause_before s old new faults faults_now (Unwritten file) never = absurd never
cause_before s old new faults faults_now _ cause = tt

-- the cause of a refusal of the narration's file, before any child is started
module _ (s : Staged) (children : ℕ → Child) (faults faults_now : List ℕ → ℕ) (Refused : Type 0) where
  pub file_cause : (status : Status) → IsEarly status → IsFailure status (λ file. IsOneOf (staged_files s) file × Rose (faults file) (faults_now file)) Refused
      → HasCauseBefore s children children faults faults_now status
  file_cause (FileFault file) early fails = fails
  file_cause (ChildFault name) (inl early) fails = absurd early.1
  file_cause (ChildFault name) (inr never) fails = absurd (cc)
  file_cause (ChildSilent name seconds) (inl early) fails = absurd early.1
  file_cause (ChildSilent name seconds) (inr never) fails = absurd (cc)
  file_cause (Unwritten file) (inl early) fails = absurd (let never = early.0 in cc)
  file_cause (Unwritten file) (inr never) fails = absurd (cc)
  file_cause _ early fails = tt

-- ---- a file

module _ (s : Staged) (told : Option Files) (old new : ℕ → Child) where
  pub in_file : (p : Scene) (text : List ℕ) → IfTold told (λ files. SceneInFiles files s (given p)) → Relays s old new p text → RelaysInFile s old new told text
  in_file p text is relays = told_map told (λ files f. (p, f, relays)) is

  pub fails_in_file : (p : Scene) (status : Status) → IfTold told (λ files. SceneInFiles files s (given p)) → FailsRelaying s old new p status
      → FailsInFile s old new told status
  fails_in_file p status is fails = told_map told (λ files f. inr (p, f, fails)) is

-- where each file that fails is read
pub refused_file : (s : Staged) (told : Option Files) (children : ℕ → Child) (status : Status) (P : List ℕ → Type 0)
    → IsFailure status P (IfTold told (λ files. SceneInFiles files s (refused status)))
    → ((file : List ℕ) → P file → IfTold told (λ files. IsReadForScene files s file)) → FailsInFile s children children told status
refused_file s None children status P fails read = tt
refused_file s (Some files) children (FileFault file) P fails read = inl (read file fails, λ role within. refl)
refused_file s (Some files) children NoMemory P fails read = inl (tt, λ role within. refl)
refused_file s (Some files) children status P fails read = inl (fails, λ role within. refl)

-- ---- what is written

module _ (s : Staged) (old new : ℕ → Child) (told : Option Files) where
  report_of : (text : List ℕ) (status : Status) (w now : Option (List ℕ)) → IsWritten text status w now → IsReport s old new w now text status
  report_of text NoMemory w now never = absurd never
  report_of text _ w now is = is

  pub staged_text : (text : List ℕ) (status : Status) (w now : Option (List ℕ)) → RelaysInFile s old new told text → IsWritten text status w now
      → IfTold told (λ files. IsStaged s old new w now files status)
  staged_text text status w now relays is = told_map told (λ files r. inr (
    r.0,
    r.1,
    inr (record {
      relays = r.2.relays;
      text = text;
      tells = r.2.tells;
      writes = report_of text status w now is;
    }),
  )) relays

  pub staged_refused : (status : Status) (w : Option (List ℕ)) → FailsInFile s old new told status → IfTold told (λ files. IsStaged s old new w w files status)
  staged_refused status w fails = told_map told (λ files f. by files f) fails where
    by : (files : Files)
        → (IsFailure status (IsReadForScene files s) (SceneInFiles files s (refused status)) × Stay s old new)
        ⊎ ((p : Scene) × SceneInFiles files s (given p) × FailsRelaying s old new p status)
        → (IsFailure status (IsReadForScene files s) (SceneInFiles files s (refused status)) × IsIdle s old new w w)
        ⊎ ((p : Scene) × SceneInFiles files s (given p) × (IsRefusedAs s old new w w p status ⊎ IsRelayedAs s old new w w p status))
    by files (inl x) = inl (x.0, record { children = x.1; unwritten = refl })
    by files (inr (p, f, inl r)) = inr (p, f, inl (record { refusal = r.refusal; is = r.is; refuses = r.refuses; unwritten = refl }))
    by files (inr (p, f, inr (is, (text, relays)))) = inr (
      p,
      f,
      inr (record {
        relays = relays.relays;
        text = text;
        tells = relays.tells;
        writes = subst (IsReport s old new w w text) (sym is) refl;
      }),
    )

-- ---- causes

module _ (s : Staged) (faults faults_now : List ℕ → ℕ) (old new : ℕ → Child) (S : WireState) where
  pub stage_cause : (limit : Option ℕ) (T : WireState) (status : Status) → HasWireCause (Some Stdio) S T status → HasStageCause limit (staged_files s) faults faults_now old new S T status
  stage_cause limit T (ChildFault name) never = absurd never
  stage_cause limit T (ChildSilent name seconds) never = absurd never
  stage_cause limit T (FileFault file) never = absurd never
  stage_cause limit T _ cause = cause

  pub before_cause : (status : Status) → IsBefore status → HasCauseBefore s old new faults faults_now status
      → HasStageCause s.limit (staged_files s) faults faults_now old new S S status
  before_cause (FileFault file) before cause = cause
  before_cause (ChildFault name) before cause = cause
  before_cause (ChildSilent name seconds) before cause = cause
  before_cause (Unwritten file) before cause = cause
  before_cause (Unreached at) (inl before) cause = absurd (let never = before.0 in cc)
  before_cause (Unreached at) (inr never) cause = absurd (cc)
  before_cause ReadFault (inl before) cause = absurd (let never = before.0 in cc)
  before_cause ReadFault (inr never) cause = absurd (cc)
  before_cause WriteFault (inl before) cause = absurd (let never = before.0 in cc)
  before_cause WriteFault (inr never) cause = absurd (cc)
  before_cause Usage (inl before) cause = absurd (before.1 refl)
  before_cause Usage (inr never) cause = absurd (cc)
  before_cause _ before cause = tt

-- ---- where nothing failed

module _ (narrations : NarrationsAreUnique) (refusals : RefusalsAreUnique) (none : NoneIsBoth) (fits : FitIsUnique) (s : Staged) (told : Option Files) (old new : ℕ → Child) (faults faults_now : List ℕ → ℕ) (S T : WireState)
    (quiet : NoneRose (staged_files s) faults faults_now S T) (calm : NoChildRose old new) where
  Cause : Status → Type 0
  Cause = HasStageCause s.limit (staged_files s) faults faults_now old new S T

  AnswersAs : Status → Type 0
  AnswersAs status = (status ≡ Done) ⊎ (status ≡ NoMemory)

  not_missing : (r : RelayNo) → None ≡ Some r → ⊥
  not_missing r e = cc

  idle : (files : Files) (p : Scene) (status : Status) → SceneInFiles files s (given p) → Cause status
      → IsFailure status (IsReadForScene files s) (SceneInFiles files s (refused status)) → AnswersAs status
  unfolding Cause AnswersAs
  idle files p (FileFault file) f cause fails = absurd (quiet.files file cause.0 cause.1)
  idle files p NoMemory f cause fails = inr refl
  idle files p status f cause fails = not_both status p (scene_one narrations refusals none fits files s (refused status) (given p) fails f)

  never_faulty : {P : Type 0} (name : List ℕ) (status : Status) (limit : Option ℕ) (silent : Bool) → status ≡ fault_status name limit silent → Cause status → P
  unfolding Cause
  never_faulty name status None silent is cause =
      let c = subst (HasStageCause s.limit (staged_files s) faults faults_now old new S T) is cause in absurd (calm c.0 c.1 c.2)
  never_faulty name status (Some seconds) false is cause =
      let c = subst (HasStageCause s.limit (staged_files s) faults faults_now old new S T) is cause in absurd (calm c.0 c.1 c.2)
  never_faulty name status (Some seconds) true is cause =
      let c = subst (HasStageCause s.limit (staged_files s) faults faults_now old new S T) is cause in absurd (calm c.0 c.1 c.2)

  refused_as : (p : Scene) (status : Status) → AllGoWell p old → Cause status → (r : RelayNo) → status ≡ status_after s.limit new p.protocol r
      → IsRefused (length p.protocol.roles) old new (p.asked) (ends_in p.protocol) r → AnswersAs status
  unfolding Cause AnswersAs
  refused_as p status well cause no.NoMemory is refuses = inr is
  refused_as p status well cause (no.Fault role) is refuses =
      never_faulty (get_or p.protocol.roles role []) status s.limit (new role).silent is cause
  refused_as p status well cause (no.Bad role n) is refuses =
      absurd (refuses.bad.1 (sym (subst (λ (o : Option ℕ). IfSome o (λ t. t ≡ n)) (well.good role refuses.bad.0) refuses.bad.2)))
  refused_as p status well cause (no.Ended action) is refuses = absurd (not_missing _ (sym well.none ∙ (refuses.writes well.outputs well.tails well.cut).0))
  refused_as p status well cause (no.Cut action have need) is refuses = absurd (not_missing _ (sym well.none ∙ (refuses.writes well.outputs well.tails well.cut).0))
  refused_as p status well cause (no.Long action len) is refuses = absurd (not_missing _ (sym well.none ∙ (refuses.writes well.outputs well.tails well.cut).0))

  reported : (text : List ℕ) (status : Status) (w now : Option (List ℕ)) → Cause status → IsReport s old new w now text status → AnswersAs status
  unfolding Cause AnswersAs
  reported text Done w now cause is = inl refl
  reported text NoMemory w now cause is = inr refl
  reported text WriteFault w now cause is = absurd (quiet.writes cause)
  reported text (Unreached at) w now cause is = absurd (quiet.reaches cause.1)
  reported text _ w now cause never = absurd never

  pub completes : (status : Status) (w now : Option (List ℕ)) → HasStageCause s.limit (staged_files s) faults faults_now old new S T status
      → IfTold told (λ files. IsStaged s old new w now files status) → CompletesStage s old told status
  unfolding Cause AnswersAs
  completes status w now cause does = told_map told by does where
    same : (files : Files) (p q : Scene) → SceneInFiles files s (given p) → SceneInFiles files s (given q) → p ≡ q
    same files p q f g = same_given p q (scene_one narrations refusals none fits files s (given p) (given q) f g)

    by : (files : Files)
        → (IsFailure status (IsReadForScene files s) (SceneInFiles files s (refused status)) × IsIdle s old new w now)
        ⊎ ((p : Scene) × SceneInFiles files s (given p) × (IsRefusedAs s old new w now p status ⊎ IsRelayedAs s old new w now p status))
        → (p : Scene) → SceneInFiles files s (given p) → AllGoWell p old → (status ≡ Done) ⊎ (status ≡ NoMemory)
    by files (inl x) p f well = idle files p status f cause x.0
    by files (inr (q, g, inl r)) p f well = refused_as q status (subst (λ (z : Scene). AllGoWell z old) (same files p q f g) well) cause r.refusal r.is r.refuses
    by files (inr (q, g, inr r)) p f well = reported r.text status w now cause r.writes
