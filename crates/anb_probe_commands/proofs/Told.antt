-- The status that is told of a test, from how it ended and from what is missing of its record.
use Rattle.std.proofs.Common.{◌≡◌, ◌≢◌, ◌⊎◌, ◌≤◌, ℕ, List, [], ◌∷◌, length, true, false, Option, Some, None, refl, ap, sym, ◌∙◌, subst, inl, inr, arith}
use Rattle.anb_attempts.specs.declared.attempts.TheConstants.{MOST}
use Rattle.anb_attempts.specs.declared.attempts.Attempt.{Attempt}
use Rattle.anb_attempts.specs.declared.attempts.Scene.{Scene}
use Rattle.anb_base.specs.Moves.{Rose}
use Rattle.anb_base.specs.Wires.{WireState}
use Rattle.anb_base.specs.declared.place.Place.TheVariants.{Stdio}
use Rattle.anb_command.specs.Causes.{DidNotRise}
use Rattle.anb_command.specs.Fetches.{Files, IfTold}
use Rattle.anb_command.specs.Reaches.{Reaches}
use Rattle.anb_command.specs.Steps.{given}
use Rattle.anb_command.specs.Touches.{Touches}
use Rattle.anb_command.proofs.OverWire.{untouched}
use Rattle.anb_command.proofs.Preparing.{told_both}
use Rattle.anb_partner.specs.Trials.{Trial}
use Rattle.anb_partner.specs.declared.planning.PartnerNo.{PartnerNo}
use Rattle.anb_partner.specs.declared.planning.PartnerNo.TheVariants as no
use Rattle.anb_protocol.specs.Protocols.{ProtocolValue}
use Rattle.anb_recorded.specs.Names.{values_in}
use Rattle.anb_recorded.specs.Outcomes.{IsMissing, told_as}
use Rattle.anb_recorded.specs.declared.ended.Missing.{Missing}
use Rattle.anb_recorded.specs.declared.ended.Missing.TheVariants as missing
use Rattle.anb_recorded.proofs.Completing.{by_what_is_missing}
use Rattle.anb_recorded.proofs.Telling.{any_time, calm_place, told_by, touches_any}
use Rattle.anb_recording.specs.Joining.{others_joined, others_still}
use Rattle.anb_recording.specs.Journals.{OthersStay}
use Rattle.anb_status.specs.Statuses.{IsEarly, after_reach, at_any_time, at_reach, before_reach, is_fault}
use Rattle.anb_status.specs.declared.status.Status.{Status}
use Rattle.anb_status.specs.declared.status.Status.TheVariants.{ChildFault, NoMemory, Unwritten}
use Rattle.anb_store.specs.Stores.{StoreState, replaced}
use Rattle.anb_values.specs.declared.fitted.Fitted.{Fitted}
use Rattle.anb_values_commands.specs.RoleValuesCommand.{OwnIs, RoleValuesText}
use Rattle.anb_probe_commands.specs.Keeping.{Goes, KeepsBy, RecordsCases, RecordsTask, Told, all_told}
use Rattle.anb_probe_commands.specs.Playing.{IsPrepared, TaskComesTo}
use Rattle.anb_probe_commands.specs.ProbeCommand.{Agenda, ComesTo, CompletesProbe, HasProbeCause, IsHonestNo, RefusesHonest, probe_phase}
use Rattle.anb_probe_commands.specs.ProbeInto.{CompletesProbeInto, HasProbeIntoCause, IsRecorded, into_phase}
use Rattle.anb_probe_commands.specs.Probings.{Probing, ProbingIs}
use Rattle.anb_probe_commands.specs.Records.{IsOfRecord}
use Rattle.anb_probe_commands.specs.Tasks.{agenda_by}
use Rattle.anb_probe_commands.specs.Words.{Probed, Trying, order_of}
use Rattle.anb_probe_commands.specs.declared.cases.Prepared.{Prepared}
use Rattle.anb_probe_commands.proofs.Ending.{task_comes}
use Rattle.anb_probe_commands.proofs.Holding.{holds_cases}
use Rattle.anb_probe_commands.proofs.Kept.{keeps_next, keeps_some}
use Rattle.anb_probe_commands.proofs.Outcomes.{early_phase, never_early}

-- ---- a file of the record

-- no other file is touched
pub others_of : (folder name : List ℕ) (old new : StoreState) → IsOfRecord folder name → OthersStay (λ other. other ≡ name) old new → OthersStay (IsOfRecord folder) old new
others_of folder name old new mine others files is =
    let now = others files is in
    (now.0, now.1, λ other not. now.2 other (λ same. not (subst (IsOfRecord folder) (sym same) mine)))

-- ---- a case's file

module _ (folder : List ℕ) (old new : StoreState) (t : Told) where
  pub goes_put : new ≡ all_told folder old (t ∷ []) → OthersStay (IsOfRecord folder) old new → Goes folder old new missing.Nothing missing.Nothing (t ∷ [])
  goes_put is others = record {
    stuck = λ not. absurd (not refl);
    whole = λ _. (refl, is);
    failed = λ name w. absurd (let never = w in cc);
    there = λ name w. w;
    quiet = λ _. ap (λ (s : StoreState). s.faults) is;
    never_falls = let same : new.faults ≡ old.faults = ap (λ (s : StoreState). s.faults) is in omega (arith, same);
    others = others;
  }

  pub goes_failed : (name : List ℕ) → IsOfRecord folder name → Rose old.faults new.faults → old.faults ≤ new.faults → OthersStay (IsOfRecord folder) old new
      → Goes folder old new missing.Nothing (missing.Unwritten name) (t ∷ [])
  goes_failed name mine rose rises others = record {
    stuck = λ not. absurd (not refl);
    whole = λ is. absurd (let never = is in cc);
    failed = λ other is. inr (subst (IsOfRecord folder) (same_name other is) mine, rose);
    there = λ other is. absurd (let never = is in cc);
    quiet = λ not. absurd (not name refl);
    never_falls = rises;
    others = others;
  } where
    same_name : (other : List ℕ) → missing.Unwritten name ≡ missing.Unwritten other → name ≡ other
    same_name other is = cc

  pub goes_wanting : new.faults ≡ old.faults → OthersStay (IsOfRecord folder) old new → Goes folder old new missing.Nothing missing.NoMemory (t ∷ [])
  goes_wanting quiet others = record {
    stuck = λ not. absurd (not refl);
    whole = λ is. absurd (let never = is in cc);
    failed = λ name is. absurd (let never = is in cc);
    there = λ name is. absurd (let never = is in cc);
    quiet = λ _. quiet;
    never_falls = omega (arith, quiet);
    others = others;
  }

pub goes_stuck : (folder : List ℕ) (store : StoreState) (m : Missing) (some : List Told) → m ≢ missing.Nothing → Goes folder store store m m some
goes_stuck folder store m some not = record {
  stuck = λ _. (refl, refl);
  whole = λ is. absurd (not is);
  failed = λ name is. inl is;
  there = λ name is. is;
  quiet = λ _. refl;
  never_falls = omega arith;
  others = others_still (IsOfRecord folder) store;
}

-- ---- behind the file of the values

module _ (folder values : List ℕ) (store mid now : StoreState) (S T : WireState) (end : Status) (after : Missing) (some : List Told) where
  -- it was made
  pub missed_made : mid ≡ replaced store (values_in folder) values → OthersStay (IsOfRecord folder) store mid → Goes folder mid now missing.Nothing after some → IsMissing (IsOfRecord folder) store now S T end after
  missed_made made first goes = by after goes where
    same : mid.faults ≡ store.faults
    same = ap (λ (s : StoreState). s.faults) made

    all : Goes folder mid now missing.Nothing after some → OthersStay (IsOfRecord folder) store now
    all g = others_joined (IsOfRecord folder) store mid now first g.others

    by : (m : Missing) → Goes folder mid now missing.Nothing m some → IsMissing (IsOfRecord folder) store now S T end m
    by missing.Nothing g = λ _. (g.quiet (λ name e. let never = e in cc) ∙ same, all goes)
    by missing.NoMemory g = λ _. (g.quiet (λ name e. let never = e in cc) ∙ same, all goes)
    by (missing.Unwritten name) g = λ _. elim (g.failed name refl) [
      | inl was ↦ absurd (let never = was in cc)
      | inr rose ↦ (rose.0, subst (λ (n : ℕ). Rose n now.faults) same rose.1, all goes)
    ]
    by (missing.There name) g = absurd (let never = g.there name refl in cc)

  -- it couldn't be written
  pub missed_unmade : (file : List ℕ) → IsOfRecord folder file → Rose store.faults mid.faults → OthersStay (IsOfRecord folder) store mid → Goes folder mid now (missing.Unwritten file) after some → IsMissing (IsOfRecord folder) store now S T end after
  missed_unmade file mine rose first goes =
      let stuck = goes.stuck (λ is. let never = is in cc) in
      subst (IsMissing (IsOfRecord folder) store now S T end) (sym stuck.0) (λ _. (mine, subst (λ (s : StoreState). Rose store.faults s.faults) (sym stuck.1) rose, subst (OthersStay (IsOfRecord folder) store) (sym stuck.1) first))

-- behind references that are still the same
pub kept_behind : {A : Type 0} (state : A → StoreState) (q : Probing) (scenes : List Scene) (order : List (List ℕ)) (cases : List Attempt) (folder : List ℕ) (old : StoreState) (before : Missing)
    (children children_now : ℕ → Trial) (end : Status) (x y : A) (m n : Missing) (name name_now : ℕ) → name_now ≡ name → (name_now ≡ name → x ≡ y)
    → (place place_now : ℕ) → place_now ≡ place → (place_now ≡ place → m ≡ n)
    → KeepsBy q scenes order cases (λ some. Goes folder old (state y) before n some) children children_now end
    → KeepsBy q scenes order cases (λ some. Goes folder old (state x) before m some) children children_now end
kept_behind state q scenes order cases folder old before children children_now end x y m n name name_now is same place place_now at same_place kept = rw (same is, same_place at) kept

-- ---- what is recorded

module _ (q : Probing) (x : Prepared) (order : List (List ℕ)) (fitted : Fitted) (folder values : List ℕ) (store mid now : StoreState) (old new : ℕ → Trial) (end : Status) (few : length x.cases.items ≤ MOST) where
  pub records_cases : OwnIs q.protocol q.role fitted (given values) → mid ≡ replaced store (values_in folder) values → end ≢ NoMemory
      → KeepsBy q x.scenes.items order x.cases.items (λ some. Goes folder mid now missing.Nothing missing.Nothing some) old new end
      → RecordsCases q folder fitted store now old new end (agenda_by x) order
  records_cases own made some kept =
      let k = keeps_next q x order (λ some. Goes folder mid now missing.Nothing missing.Nothing some) old new end some kept in
      record {
        values = values;
        own = own;
        reached = k.reached;
        ends = k.ends;
        played = k.played;
        next = k.next;
        holds = holds_cases folder values store mid now k.ends (omega (arith, k.within, few)) made (k.kept.whole refl).1;
      }

  -- where the values couldn't be written something is missing
  pub never_whole : {P : Type 0} (file : List ℕ) (after : Missing) → KeepsBy q x.scenes.items order x.cases.items (λ some. Goes folder mid now (missing.Unwritten file) after some) old new end → after ≡ missing.Nothing → P
  never_whole file after kept is =
      let some = keeps_some q x order (λ some. Goes folder mid now (missing.Unwritten file) after some) old new end kept in
      let never : missing.Unwritten file ≡ missing.Nothing = (some.1.whole is).0 in
      absurd (cc)

pub records_task : (q : Probing) (trying : Trying) (x : Prepared) (ready : IsPrepared q trying x) (fitted : Fitted) (folder : List ℕ) (store now : StoreState) (old new : ℕ → Trial) (end : Status)
    → RecordsCases q folder fitted store now old new end (agenda_by x) (order_of trying) → RecordsTask q folder fitted store now old new end trying
records_task q trying x ready fitted folder store now old new end is =
    (ready.suit, subst (λ (g : Agenda). RecordsCases q folder fitted store now old new end g (order_of trying)) ready.same is)

-- the values are those that `values` writes
pub is_recorded : (asked : Probed) (folder : List ℕ) (told : Option Files) (host_seed : Option (List ℕ)) (old new : ℕ → Trial) (S T : WireState) (store now : StoreState) (q : Probing) (fitted : Fitted) (end : Status)
    → IfTold told (λ files. ProbingIs files asked.narration asked.role asked.values host_seed (given q))
    → IfTold told (λ files. (text : List ℕ) → OwnIs q.protocol q.role fitted (given text) → RoleValuesText files asked.narration asked.role asked.values (given text))
    → RecordsTask q folder fitted store now old new end asked.trying → IsRecorded asked folder told host_seed old new S T store now end
is_recorded asked folder told host_seed old new S T store now q fitted end asks own (suit, r) = told_both told (λ files a o. record {
  values = r.values;
  own = o r.values r.own;
  q = q;
  asks = a;
  suit = suit;
  reached = r.reached;
  ends = r.ends;
  played = r.played;
  next = r.next;
  holds = r.holds;
}) asks own

-- ---- what comes before anything is started

late_memory : (s : Status) → s ≡ NoMemory → probe_phase s ≡ before_reach → ⊥
late_memory s is early = let never : at_any_time ≡ before_reach = ap probe_phase (sym is) ∙ early in cc

-- cases are played late
pub cases_late : {P : Type 0} (q : Probing) (trying : Trying) (g : Agenda) (name : List ℕ) (old new : ℕ → Trial) (S T : WireState) (s : Status)
    → ((s ≡ NoMemory) × (new ≡ old) × (T ≡ S)) ⊎ ComesTo q trying g name old new S.written T.written s → probe_phase s ≡ before_reach → P
cases_late q trying g name old new S T s (inl none) early = absurd (late_memory s none.0 early)
cases_late {P} q trying g name old new S T s (inr comes) early = never_early q trying g name old new S T P s before_reach refl early comes

pub cases_come : (q : Probing) (trying : Trying) (x : Prepared) → IsPrepared q trying x → (name : List ℕ) (old new : ℕ → Trial) (S T : WireState) (s : Status)
    → ((s ≡ NoMemory) × (new ≡ old) × (T ≡ S)) ⊎ ComesTo q trying (agenda_by x) name old new S.written T.written s → TaskComesTo q trying name old new S T s
cases_come q trying x ready name old new S T s (inl none) = inl (inr none.0, none.1, none.2)
cases_come q trying x ready name old new S T s (inr comes) = task_comes q trying x ready name old new S T s comes

honest_early : (p : ProtocolValue) (role : ℕ) (why : PartnerNo) (s : Status) → IsHonestNo p role why s → (probe_phase s ≡ before_reach) ⊎ (s ≡ NoMemory)
honest_early p role (no.CannotSend line) s (number, sender, at, is) = inl (ap probe_phase is)
honest_early p role no.Large s is = inl (ap probe_phase is)
honest_early p role no.NoMemory s is = inr is

-- what is refused leaves nothing to be recorded
pub never_recorded : {P : Type 0} (s : Status) → (probe_phase s ≡ before_reach) ⊎ (s ≡ NoMemory) → (probe_phase s ≡ before_reach → ⊥) → s ≢ NoMemory → P
never_recorded s (inl early) late some = absurd (late early)
never_recorded s (inr none) late some = absurd (some none)

pub refused_before : (q : Probing) (trying : Trying) (s : Status) → RefusesHonest q trying s ⊎ (s ≡ NoMemory) → (probe_phase s ≡ before_reach) ⊎ (s ≡ NoMemory)
refused_before q trying s (inl r) = honest_early q.protocol q.role r.why s r.is
refused_before q trying s (inr none) = inr none

pub early_before : (s : Status) → IsEarly s → (probe_phase s ≡ before_reach) ⊎ (s ≡ NoMemory)
early_before s early = by early where
  by : IsEarly s → (probe_phase s ≡ before_reach) ⊎ (s ≡ NoMemory)
  by (inl is) = inl (early_phase s early ∙ is.0)
  by (inr none) = inr none

-- ---- the status

calm_probe : (s : Status) → is_fault s ≡ false → probe_phase s ≡ at_reach → ⊥
calm_probe (ChildFault name) calm at = cc
calm_probe s calm at = calm_place s calm at

module _ (folder : List ℕ) (store now : StoreState) (S T : WireState) (end : Status) (missed : Missing) (why : IsMissing (IsOfRecord folder) store now S T end missed) where
  module _ (names : List (List ℕ)) (faults faults_now : List ℕ → ℕ) (old new : ℕ → Trial) where
    own_cause : (s : Status) → HasProbeCause names faults faults_now old new S T s → HasProbeIntoCause folder store now names faults faults_now old new S T s
    own_cause (Unwritten name) never = absurd never
    own_cause _ cause = cause

    pub told_probe_cause : HasProbeCause names faults faults_now old new S T end → HasProbeIntoCause folder store now names faults faults_now old new S T (told_as end missed)
    told_probe_cause cause =
        told_by (IsOfRecord folder) store now S T end missed why (HasProbeIntoCause folder store now names faults faults_now old new S T) (own_cause end cause)
        (λ name mine calm rose. (mine, inr rose)) (λ calm. tt) (λ name mine there is same. (mine, inl there))

  own_reach : (s : Status) → Reaches (Some Stdio) (probe_phase s) S.reached T.reached → Reaches (Some Stdio) (into_phase s) S.reached T.reached
  own_reach (Unwritten name) is = inr is
  own_reach _ is = is

  pub told_probe_reaches : Reaches (Some Stdio) (probe_phase end) S.reached T.reached → Reaches (Some Stdio) (into_phase (told_as end missed)) S.reached T.reached
  told_probe_reaches reaches =
      let any = any_time Stdio (probe_phase end) S.reached T.reached reaches in
      told_by (IsOfRecord folder) store now S T end missed why (λ s. Reaches (Some Stdio) (into_phase s) S.reached T.reached) (own_reach end reaches)
      (λ name mine calm rose. any) (λ calm. any) (λ name mine there is same. inl (ap (λ (W : WireState). W.reached) same))

  own_touches : (s : Status) → Touches false (probe_phase s) S T → Touches false (into_phase s) S T
  own_touches (Unwritten name) touches = touches_any S T after_reach (λ is. cc) touches
  own_touches _ touches = touches

  pub told_probe_touches : Touches false (probe_phase end) S T → Touches false (into_phase (told_as end missed)) S T
  told_probe_touches touches =
      told_by (IsOfRecord folder) store now S T end missed why (λ s. Touches false (into_phase s) S T) (own_touches end touches)
      (λ name mine calm rose. touches_any S T (probe_phase end) (calm_probe end calm) touches)
      (λ calm. touches_any S T (probe_phase end) (calm_probe end calm) touches)
      (λ name mine there is same. subst (λ (W : WireState). Touches false at_any_time S W) (sym same) (untouched false at_any_time S))

  -- where nothing failed
  module _ (asked : Probed) (told : Option Files) (host_seed : Option (List ℕ)) (old new : ℕ → Trial) where
    always : (t : Option Files) (P : Files → Type 0) → ((files : Files) → P files) → IfTold t P
    always None P all = tt
    always (Some files) P all = all files

    abbrev Whole : Status → Type 0
    Whole s = CompletesProbe asked told host_seed old new S T s × ((probe_phase s ≡ before_reach → ⊥) → s ≢ NoMemory → IsRecorded asked folder told host_seed old new S T store now s)

    pub told_probe_completes : DidNotRise store.faults now.faults → (is_fault end ≡ true → end ≡ NoMemory) → CompletesProbe asked told host_seed old new S T end
        → ((probe_phase end ≡ before_reach → ⊥) → end ≢ NoMemory → missed ≡ missing.Nothing → IsRecorded asked folder told host_seed old new S T store now end)
        → CompletesProbeInto asked folder told host_seed old new S T store now (told_as end missed)
    told_probe_completes calm only completes recorded =
        by_what_is_missing S T (IsOfRecord folder) store now end missed why calm only (CompletesProbeInto asked folder told host_seed old new S T store now (told_as end missed)) (λ taken. inl taken)
        (λ nothing same. inr (subst Whole (sym same) (completes, λ late some. recorded late some nothing)))
        (λ none. inr (subst Whole (sym none) (always told _ (λ files q asks. inr (inr refl)), λ late some. absurd (some refl))))
