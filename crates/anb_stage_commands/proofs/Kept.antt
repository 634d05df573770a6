-- What is kept of a relay, and what is missing of it.
use Rattle.std.proofs.Common.{◌≡◌, ◌≢◌, ◌⊎◌, ◌<◌, ◌≤◌, ℕ, true, false, List, [], length, take, Option, Some, None, Result, Ok, Err, refl, ap, ◌∙◌, subst, inl, inr, arith}
use Rattle.std.specs.Prelude.{IfErr}
use Rattle.std.specs.List.{slice_get}
use Rattle.std.proofs.lemmas.Option.{slice_get-map}
use Rattle.anb_recording.specs.Joining.{others_still}
use Rattle.anb_recording.specs.Journals.{IsThere, OthersStay}
use Rattle.anb_recorded.specs.declared.ended.Missing.{Missing}
use Rattle.anb_recorded.specs.declared.ended.Missing.TheVariants as missing
use Rattle.anb_read.specs.Laws.{NarrationsAreUnique, RefusalsAreUnique, NoneIsBoth}
use Rattle.anb_values.specs.Fit.{FitIsUnique}
use Rattle.anb_stage.specs.Children.{Child}
use Rattle.anb_stage.specs.Notes.{notes_of}
use Rattle.anb_stage.specs.Relays.{ends_in}
use Rattle.anb_stage.specs.declared.refusal.RelayNo.TheVariants as no
use Rattle.anb_stage.proofs.Whole.{refused_before}
use Rattle.anb_store.specs.Stores.{StoreState}
use Rattle.anb_status.specs.declared.status.Status.{Status}
use Rattle.anb_status.specs.declared.status.Status.TheVariants.{FileFault, NoMemory}
use Rattle.anb_command.specs.Fetches.{Files, IfTold}
use Rattle.anb_command.specs.Reported.{fails_by_file, is_file_fault}
use Rattle.anb_command.specs.Steps.{IsFailure, given, refused}
use Rattle.anb_command.proofs.Chains.{told_map}
use Rattle.anb_command.proofs.Ones.{not_both, same_given}
use Rattle.anb_stage_commands.specs.Keeping.{HasKept, IsKept, IsKeptOf, WentOn}
use Rattle.anb_stage_commands.specs.Records.{AreNew, IsOfStage, all_files, all_made, last_line, put_to, report_in}
use Rattle.anb_stage_commands.specs.Relaying.{FailsRelaying, HasChildCause}
use Rattle.anb_stage_commands.specs.Scenes.{Scene, SceneInFiles}
use Rattle.anb_stage_commands.specs.StageInto.{Misses}
use Rattle.anb_stage_commands.specs.Telling.{AreMade, Goes, IsMade, IsOfThese, all_names, all_put, goes_further, lined_or, missing_of, names_of, put_all}
use Rattle.anb_stage_commands.specs.Words.{Staged}
use Rattle.anb_stage_commands.specs.declared.files.Both.{Both}
use Rattle.anb_stage_commands.specs.declared.record.Lack.{Lack}
use Rattle.anb_stage_commands.specs.declared.record.Lack.TheVariants as lack
use Rattle.anb_stage_commands.specs.declared.record.Made.TheVariants as made
use Rattle.anb_stage_commands.proofs.Casting.{scene_one}
use Rattle.anb_stage_commands.proofs.Logged.{got_within, made_faults, notes_same}

-- ---- before a child is started

pub no_memory_before : (s : Staged) (children : ℕ → Child) (z : Scene) → length z.protocol.roles ≤ 32 → length z.asked ≡ length z.protocol.roles
    → ((role : ℕ) → role < 32 → (children role).phase ≡ 0) → FailsRelaying s children children z NoMemory
no_memory_before s children z few many new = inl (record {
  refusal = no.NoMemory;
  is = refl;
  refuses = refused_before (length z.protocol.roles) few z.asked many (ends_in z.protocol) children (λ role below. new role (omega (arith, below, few)));
})

-- ---- what is missing

place_named : (files : List Both) (place : ℕ) (both : Both) → slice_get files place ≡ Some both → slice_get (all_names files) place ≡ Some (names_of both)
place_named files place both at = slice_get-map names_of files place ∙ rw at refl

module _ (folder : List ℕ) (roles : List (List ℕ)) (files : List Both) (same : all_names files ≡ all_files folder roles) where
  of_stage : (place : ℕ) (both : Both) → slice_get files place ≡ Some both → slice_get (all_files folder roles) place ≡ Some (names_of both)
  of_stage place both at = subst (λ (names : List (List ℕ × List ℕ)). slice_get names place ≡ Some (names_of both)) same (place_named files place both at)

  unwritten_named : (place : ℕ) (o : Option Both) (both : Both) → o ≡ Some both → lined_or o ≡ both.lined
  unwritten_named place o both is = ap lined_or is

  module _ (old new : ℕ → Child) (a b : StoreState) (Short : Type 0) where
    pub misses_of : (l : Lack) (put : StoreState → StoreState) → Goes files a b lack.Nothing l put → Misses folder roles old new a b Short (missing_of files l)
    misses_of lack.Nothing put goes = goes.quiet (λ is. let never = is.1 in cc)
    misses_of lack.NoMemory put goes = goes.quiet (λ is. let never = is.1 in cc)
    misses_of (lack.Unwritten place) put goes =
        let there = got_within files place (goes.place tt) in (
          (place, (names_of there.0, of_stage place there.0 there.1, inl (unwritten_named place (slice_get files place) there.0 there.1))),
          elim (goes.failed (place, refl)) [ inl was ↦ absurd (let never = was.1 in cc) | inr rose ↦ rose ],
        )

    pub others_same : OthersStay (IsOfThese files) a b → OthersStay (IsOfStage folder roles) a b
    others_same others told is =
        let now = others told is in
        (now.0, now.1, λ name not. now.2 name (λ m. not (m.0, (names_of m.1, of_stage m.0 m.1 m.2, m.3))))

    pub misses_there : (place : ℕ) (both : Both) (name : List ℕ) → slice_get files place ≡ Some both → (name ≡ both.lined) ⊎ (name ≡ both.beside) → Short
        → AreMade files place a b → IsThere b name → ((role : ℕ) → role < 32 → new role ≡ old role)
        → Misses folder roles old new a b Short (missing.There name)
    misses_there place both name at mine short so_far there same_children = (
      (
        place,
        (names_of both, of_stage place both at, mine),
        subst (λ (names : List (List ℕ × List ℕ)). AreNew a (take place names)) same so_far.fresh,
        so_far.made ∙ ap (λ (names : List (List ℕ × List ℕ)). all_made a (take place names)) same,
        there,
      ),
      short,
      ap (λ (s : StoreState). s.faults) so_far.made ∙ made_faults (take place (all_names files)) a,
      same_children,
    )

nothing_missing : (files : List Both) (l : Lack) → missing_of files l ≡ missing.Nothing → l ≡ lack.Nothing
nothing_missing files lack.Nothing is = refl
nothing_missing files lack.NoMemory is = absurd (let never = is in cc)
nothing_missing files (lack.Unwritten place) is = absurd (let never = is in cc)

-- ---- the whole

module _ (limit : Option ℕ) (folder : List ℕ) (z : Scene) (old new : ℕ → Child) (files : List Both) (same : all_names files ≡ all_files folder z.protocol.roles)
    (a b c : StoreState) (first after : Lack) (made_now : IsMade files a b (made.Went first)) where
  all_together : (put : StoreState → StoreState) → Goes files b c first after put → Goes files a c lack.Nothing after (λ store. put (all_made store (all_names files)))
  all_together put goes = goes_further files a b c lack.Nothing first after (λ store. all_made store (all_names files)) put made_now.0 goes

  -- where nothing is missing, none of the files was there
  new_for : (put : StoreState → StoreState) → Goes files b c first after put → after ≡ lack.Nothing → AreNew a (all_files folder z.protocol.roles)
  new_for put goes is = subst (AreNew a) same (made_now.1 (goes.whole is).0)

  pub kept_of : {T : Type 0} (outcome : Result T Status) → WentOn limit z old new files b c first after outcome → IsKeptOf limit folder old new a c z outcome (missing_of files after)
  kept_of (Ok text) went =
      let goes = all_together (put_all (all_names files) (notes_of (ends_in z.protocol) went.0) (length went.0)) went.2 in (
        misses_of folder z.protocol.roles files same old new a c ⊥ after _ goes,
        others_same folder z.protocol.roles files same old new a c ⊥ goes.others,
        λ is.
            let nothing = nothing_missing files after is in
            let whole = goes.whole nothing in (
              new_for _ went.2 nothing,
              (
                went.0,
                went.1,
                whole.1
                    ∙ ap (λ (names : List (List ℕ × List ℕ)). put_all names (notes_of (ends_in z.protocol) went.0) (length went.0) (all_made a names)) same
                    ∙ ap (λ (s : StoreState). put_to s (Some (report_in folder)) (last_line (length went.0))) (notes_same folder z.protocol.roles (notes_of (ends_in z.protocol) went.0) (all_made a (all_files folder z.protocol.roles))),
              ),
            ),
      )
  kept_of (Err status) went =
      let goes = all_together (all_put (all_names files) went.0) went.2 in (
        misses_of folder z.protocol.roles files same old new a c (status ≡ NoMemory) after _ goes,
        others_same folder z.protocol.roles files same old new a c (status ≡ NoMemory) goes.others,
        λ is some.
            let nothing = nothing_missing files after is in
            let whole = goes.whole nothing in (
              new_for _ went.2 nothing,
              (
                went.0,
                went.1 some,
                whole.1
                    ∙ ap (λ (names : List (List ℕ × List ℕ)). all_put names went.0 (all_made a names)) same
                    ∙ notes_same folder z.protocol.roles went.0 (all_made a (all_files folder z.protocol.roles)),
              ),
            ),
      )

-- ---- a file

abbrev as_failed : Status → Result (Unit {0}) Status
as_failed status = Err status

only_refused : (status : Status) (P : List ℕ → Type 0) (Q : Type 0) → is_file_fault status ≡ false → status ≢ NoMemory → IsFailure status P Q → Q
only_refused (FileFault file) P Q quiet some f = absurd (let never = quiet in cc)
only_refused NoMemory P Q quiet some f = absurd (some refl)
only_refused _ P Q quiet some f = f

module _ (narrations : NarrationsAreUnique) (refusals : RefusalsAreUnique) (none : NoneIsBoth) (fits : FitIsUnique) (s : Staged) (folder : List ℕ) (told : Option Files) where
  -- what the files refuse, or a fault of one
  pub kept_refused : {T : Type 0} (children : ℕ → Child) (store : StoreState) (status : Status) (P : List ℕ → Type 0)
      → IsFailure status P (IfTold told (λ files. SceneInFiles files s (refused status)))
      → IsKept {T = T} s folder children children store store told (Err status) missing.Nothing
  kept_refused children store status P fails = record {
    leaves = λ _. refl;
    refuses = always_told told;
    roles = [];
    why_missed = refl;
    others = others_still (IsOfStage folder []) store;
    recorded = by told fails;
  } where
    always_told : (t : Option Files) → IfTold t (λ files. (status : Status) → SceneInFiles files s (refused status) → store ≡ store)
    always_told None = tt
    always_told (Some files) = λ status is. refl

    by : (t : Option Files) → IsFailure status P (IfTold t (λ files. SceneInFiles files s (refused status)))
        → IfTold t (λ files. (z : Scene) → SceneInFiles files s (given z) → is_file_fault status ≡ false
        → (((missing.Nothing ≡ missing.Nothing) × (store ≡ store)) ⊎ ([] ≡ z.protocol.roles))
        × (missing.Nothing ≡ missing.Nothing → HasKept s.limit folder children children store store z (as_failed status)))
    by None f = tt
    by (Some files) f = λ z g quiet. (
      inl (refl, refl),
      λ nothing some. not_both status z (scene_one narrations refusals none fits files s (refused status) (given z) (only_refused status P (SceneInFiles files s (refused status)) quiet some f) g),
    )

  -- a scene that they tell
  pub kept_given : {T : Type 0} (old new : ℕ → Child) (a b : StoreState) (z : Scene) (outcome : Result T Status) (missed : Missing)
      → IfTold told (λ files. SceneInFiles files s (given z)) → (fails_by_file outcome ≡ true → b ≡ a)
      → IsKeptOf s.limit folder old new a b z outcome missed → IsKept s folder old new a b told outcome missed
  kept_given old new a b z outcome missed is leaves kept = record {
    leaves = leaves;
    refuses = told_map told (λ files f. λ status r. not_both status z (scene_one narrations refusals none fits files s (refused status) (given z) r f)) is;
    roles = z.protocol.roles;
    why_missed = kept.0;
    others = kept.1;
    recorded = told_map told (λ files f. λ y g quiet.
        let same = same_given z y (scene_one narrations refusals none fits files s (given z) (given y) f g) in (
          inr (ap (λ (x : Scene). x.protocol.roles) same),
          λ nothing. subst (λ (x : Scene). HasKept s.limit folder old new a b x outcome) same (kept.2 nothing),
        )) is;
  }

-- no relay fails by a fault of a file
pub relay_leaves : {T P : Type 0} (limit : Option ℕ) (old new : ℕ → Child) (outcome : Result T Status) → IfErr outcome (HasChildCause limit old new) → fails_by_file outcome ≡ true → P
relay_leaves limit old new (Ok text) cause is = absurd (let never = is in cc)
relay_leaves limit old new (Err (FileFault file)) cause is = absurd cause
relay_leaves limit old new (Err _) cause is = absurd (let never = is in cc)
