-- What a log writes to a store.
use Rattle.std.proofs.Common.{◌≡◌, ◌≢◌, ◌<◌, ◌≤◌, ◌+◌, ℕ, zero, suc, Bool, true, false, List, [], ◌∷◌, ◌++◌, length, take, get_or, Option, Some, None, refl, sym, ap, ◌∙◌, subst, inl, inr, arith, length-append}
use Rattle.std.specs.Prelude.{bytes_eq, codes, if◌then◌else◌}
use Rattle.std.specs.List.{slice_get}
use Rattle.std.specs.Option.{option_map}
use Rattle.std.proofs.lemmas.Option.{slice_get-map}
use Rattle.std.proofs.lemmas.List.{length-map, take_all}
use Rattle.anb_base.specs.Moves.{Rose}
use Rattle.anb_recording.specs.Joining.{others_joined, others_still}
use Rattle.anb_recording.specs.Journals.{Files, IsAbsent, IsEither, IsThere, OthersStay, appended, begun}
use Rattle.anb_stage.specs.Notes.{Note, heard_note}
use Rattle.anb_store.specs.Stores.{StoreState, replaced, with_file}
use Rattle.anb_stage_commands.specs.Records.{AreNew, all_files, all_made, all_noted, errors_of, files_of, left_in, noted, own_line, put_to, report_in, reported, reported_line, transcript_at, transcript_of}
use Rattle.anb_stage_commands.specs.Telling.{AreMade, Goes, IsMade, IsOfThese, IsStopped, IsUnwritten, all_names, all_put, lined_at, names_of, put_note, put_report}
use Rattle.anb_stage_commands.specs.declared.files.Both.{Both}
use Rattle.anb_stage_commands.specs.declared.record.Lack.{Lack}
use Rattle.anb_stage_commands.specs.declared.record.Lack.TheVariants as lack
use Rattle.anb_stage_commands.specs.declared.record.Made.TheVariants as made

-- ---- names

pub report_differs : (folder : List ℕ) → report_in folder ≢ left_in folder
report_differs folder is =
    let same : length (report_in folder) ≡ length (left_in folder) = ap (length {A = ℕ}) is in
    let seven : length (codes "/report") ≡ 7 = refl in
    let five : length (codes "/left") ≡ 5 = refl in
    omega (arith, same, seven, five, length-append folder (codes "/report"), length-append folder (codes "/left"))

pub transcript_differs : (folder role : List ℕ) → transcript_of folder role ≢ errors_of folder role
transcript_differs folder role is =
    let same : length (transcript_of folder role) ≡ length (errors_of folder role) = ap (length {A = ℕ}) is in
    let eleven : length (codes ".transcript") ≡ 11 = refl in
    let seven : length (codes ".errors") ≡ 7 = refl in
    omega (
      arith,
      same,
      eleven,
      seven,
      length-append folder (47 ∷ (role ++ codes ".transcript")),
      length-append folder (47 ∷ (role ++ codes ".errors")),
      length-append role (codes ".transcript"),
      length-append role (codes ".errors"),
    )

pub got_within : {X : Type 0} (xs : List X) (i : ℕ) → i < length xs → (x : X) × (slice_get xs i ≡ Some x)
got_within [] i below = absurd (omega (arith, below))
got_within (x ∷ xs) zero below = (x, refl)
got_within (x ∷ xs) (suc i) below = got_within xs i (omega (arith, below))

-- ---- making

pub made_more : (xs : List (List ℕ × List ℕ)) (x : List ℕ × List ℕ) (s : StoreState) → all_made s (xs ++ x ∷ []) ≡ begun (all_made s xs) x.0 [] x.1
made_more [] x s = refl
made_more (y ∷ xs) x s = made_more xs x (begun s y.0 [] y.1)

pub made_faults : (xs : List (List ℕ × List ℕ)) (s : StoreState) → (all_made s xs).faults ≡ s.faults
made_faults [] s = refl
made_faults (y ∷ xs) s = made_faults xs (begun s y.0 [] y.1)

pub new_more : (xs : List (List ℕ × List ℕ)) (x : List ℕ × List ℕ) (s : StoreState) → AreNew s xs → IsAbsent s x.0 → IsAbsent s x.1 → AreNew s (xs ++ x ∷ [])
new_more [] x s before one two = (one, two, tt)
new_more (y ∷ xs) x s before one two = (before.0, before.1, new_more xs x s before.2 one two)

-- what isn't there once files were made wasn't there before
absent_replaced : (s : StoreState) (name content other : List ℕ) → IsAbsent (replaced s name content) other → IsAbsent s other
absent_replaced s name content other none files is = by (bytes_eq other name) (none (with_file files name content) (ap (option_map (λ (f : Files). with_file f name content)) is)) where
  by : (b : Bool) → (if b then Some content else files other) ≡ None → files other ≡ None
  by true e = absurd (let never = e in cc)
  by false e = e

pub absent_before : (xs : List (List ℕ × List ℕ)) (s : StoreState) (other : List ℕ) → IsAbsent (all_made s xs) other → IsAbsent s other
absent_before [] s other none = none
absent_before (x ∷ xs) s other none =
    absent_replaced s x.0 [] other (absent_replaced (replaced s x.0 []) x.1 [] other (absent_before xs (begun s x.0 [] x.1) other none))

-- ---- one thing more

pub got_below : {X : Type 0} (xs : List X) (i : ℕ) (x : X) → slice_get xs i ≡ Some x → i < length xs
got_below [] zero x is = absurd (let never = is in cc)
got_below [] (suc i) x is = absurd (let never = is in cc)
got_below (y ∷ xs) zero x is = omega arith
got_below (y ∷ xs) (suc i) x is = omega (arith, got_below xs i x is)

lined_here : (files : List Both) (place : ℕ) (both : Both) → slice_get files place ≡ Some both → lined_at (all_names files) place ≡ Some both.lined
lined_here files place both at =
    ap (λ (o : Option (List ℕ × List ℕ)). option_map (λ (b : List ℕ × List ℕ). b.0) o) (slice_get-map names_of files place)
    ∙ ap (λ (o : Option Both). option_map (λ (b : List ℕ × List ℕ). b.0) (option_map names_of o)) at

pub put_lined : (files : List Both) (place : ℕ) (both : Both) (line : List ℕ) → slice_get files place ≡ Some both → (old new : StoreState) → new ≡ appended old both.lined line
    → new ≡ put_to old (lined_at (all_names files) place) line
put_lined files place both line at old new is = is ∙ ap (λ (o : Option (List ℕ)). put_to old o line) (sym (lined_here files place both at))

pub heard_same : (names : List (List ℕ × List ℕ)) (action role : ℕ) (bytes : List ℕ) (s : StoreState)
    → put_to (put_to s (lined_at names (role + 1)) (own_line (heard_note action role bytes))) (lined_at names 0) (reported_line (heard_note action role bytes))
    ≡ all_put names (heard_note action role bytes ∷ []) s
heard_same names action role bytes s =
    let one : role + 1 ≡ suc role = omega arith in
    ap (λ (i : ℕ). put_to (put_to s (lined_at names i) (own_line (heard_note action role bytes))) (lined_at names 0) (reported_line (heard_note action role bytes))) one

others_of : (files : List Both) (place : ℕ) (both : Both) → slice_get files place ≡ Some both → (old new : StoreState) → OthersStay (IsEither both.lined both.beside) old new → OthersStay (IsOfThese files) old new
others_of files place both at old new others told is =
    let now = others told is in
    (now.0, now.1, λ other not. now.2 other (λ either. not (place, both, at, either)))

pub others_lined : (files : List Both) (place : ℕ) (both : Both) → slice_get files place ≡ Some both → (old new : StoreState) → OthersStay (λ other. other ≡ both.lined) old new → OthersStay (IsOfThese files) old new
others_lined files place both at old new others told is =
    let now = others told is in
    (now.0, now.1, λ other not. now.2 other (λ same. not (place, both, at, inl same)))

module _ (files : List Both) (put : StoreState → StoreState) where
  pub goes_stuck : (s : StoreState) (l : Lack) → l ≢ lack.Nothing → Goes files s s l l put
  goes_stuck s l not = record {
    stuck = λ _. (refl, refl);
    whole = λ is. absurd (not is);
    failed = λ is. inl is;
    quiet = λ _. refl;
    never_falls = omega arith;
    place = λ is. is;
    others = others_still (IsOfThese files) s;
  }

  written : lack.Nothing ≡ lack.Nothing → IsUnwritten lack.Nothing → ⊥
  written same is = let never = is.1 in cc

  pub goes_put : (old new : StoreState) → new ≡ put old → new.faults ≡ old.faults → OthersStay (IsOfThese files) old new → Goes files old new lack.Nothing lack.Nothing put
  goes_put old new is quiet others = record {
    stuck = λ not. absurd (not refl);
    whole = λ _. (refl, is);
    failed = λ w. inl w;
    quiet = λ _. quiet;
    never_falls = omega (arith, quiet);
    place = λ is. is;
    others = others;
  }

  pub goes_failed : (old new : StoreState) (place : ℕ) → place < length files → Rose old.faults new.faults → old.faults ≤ new.faults → OthersStay (IsOfThese files) old new
      → Goes files old new lack.Nothing (lack.Unwritten place) put
  goes_failed old new place below rose rises others = record {
    stuck = λ not. absurd (not refl);
    whole = λ is. absurd (let never = is in cc);
    failed = λ _. inr rose;
    quiet = λ not. absurd (not (place, refl));
    never_falls = rises;
    place = λ _. below;
    others = others;
  }

  pub goes_wanting : (old new : StoreState) → new.faults ≡ old.faults → OthersStay (IsOfThese files) old new → Goes files old new lack.Nothing lack.NoMemory put
  goes_wanting old new quiet others = record {
    stuck = λ not. absurd (not refl);
    whole = λ is. absurd (let never = is in cc);
    failed = λ is. absurd (let never = is.1 in cc);
    quiet = λ _. quiet;
    never_falls = omega (arith, quiet);
    place = λ _. tt;
    others = others;
  }

-- ---- the files of a record

transcript_there : (folder : List ℕ) (o : Option (List ℕ)) → option_map (λ (both : List ℕ × List ℕ). both.0) (option_map (files_of folder) o) ≡ option_map (transcript_of folder) o
transcript_there folder None = refl
transcript_there folder (Some role) = refl

lined_of_role : (folder : List ℕ) (roles : List (List ℕ)) (role : ℕ) → lined_at (all_files folder roles) (suc role) ≡ transcript_at folder roles role
lined_of_role folder roles role = ap (λ o. option_map (λ (both : List ℕ × List ℕ). both.0) o) (slice_get-map (files_of folder) roles role) ∙ transcript_there folder (slice_get roles role)

report_same : (folder : List ℕ) (roles : List (List ℕ)) (note : Note) (heard : Bool) (s : StoreState) → put_report (all_files folder roles) note heard s ≡ reported folder roles s note heard
report_same folder roles note true s = refl
report_same folder roles note false s = refl

note_same : (folder : List ℕ) (roles : List (List ℕ)) (note : Note) (s : StoreState) → put_note (all_files folder roles) note s ≡ noted folder roles s note
note_same folder roles note s =
    ap (λ (o : Option (List ℕ)). put_report (all_files folder roles) note note.heard (put_to s o (own_line note))) (lined_of_role folder roles note.role)
    ∙ report_same folder roles note note.heard (put_to s (transcript_at folder roles note.role) (own_line note))

pub notes_same : (folder : List ℕ) (roles : List (List ℕ)) (told : List Note) (s : StoreState) → all_put (all_files folder roles) told s ≡ all_noted folder roles s told
notes_same folder roles [] s = refl
notes_same folder roles (note ∷ more) s =
    notes_same folder roles more (put_note (all_files folder roles) note s) ∙ ap (λ (t : StoreState). all_noted folder roles t more) (note_same folder roles note s)

-- ---- in the loop that makes them

pub got_here : {X : Type 0} (xs : List X) (i : ℕ) (x : X) → i < length xs → x ≡ get_or xs i x → slice_get xs i ≡ Some x
got_here [] i x below is = absurd (omega (arith, below))
got_here (y ∷ xs) zero x below is = ap Some (sym is)
got_here (y ∷ xs) (suc i) x below is = got_here xs i x (omega (arith, below)) is

named_here : (files : List Both) (i : ℕ) (both : Both) → i < length files → both ≡ get_or files i both → take (i + 1) (all_names files) ≡ take i (all_names files) ++ names_of both ∷ []
named_here [] i both below is = absurd (omega (arith, below))
named_here (y ∷ files) zero both below is = ap (λ (b : Both). names_of b ∷ []) (sym is)
named_here (y ∷ files) (suc i) both below is = rw (after i) (ap (λ l. names_of y ∷ l) (named_here files i both (omega (arith, below)) is)) where
  after : (k : ℕ) → suc k + 1 ≡ suc (k + 1)
  after k = omega arith

pub none_made : (files : List Both) (store : StoreState) → AreMade files 0 store store
none_made files store = record {
  made = refl;
  fresh = tt;
  others = others_still (IsOfThese files) store;
}

made_quiet : (files : List Both) (i : ℕ) (old mid : StoreState) → AreMade files i old mid → mid.faults ≡ old.faults
made_quiet files i old mid so_far = ap (λ (s : StoreState). s.faults) so_far.made ∙ made_faults (take i (all_names files)) old

module _ (files : List Both) (i : ℕ) (both : Both) (below : i < length files) (is : both ≡ get_or files i both) (old mid : StoreState) (so_far : AreMade files i old mid) where
  pub mid_faults : mid.faults ≡ old.faults
  mid_faults = made_quiet files i old mid so_far

  here : slice_get files i ≡ Some both
  here = got_here files i both below is

  others_next : (new : StoreState) → OthersStay (IsEither both.lined both.beside) mid new → OthersStay (IsOfThese files) old new
  others_next new others = others_joined (IsOfThese files) old mid new so_far.others (others_of files i both here mid new others)

  new_here : (name : List ℕ) → IsAbsent mid name → IsAbsent old name
  new_here name none = absent_before (take i (all_names files)) old name (subst (λ (s : StoreState). IsAbsent s name) so_far.made none)

  pub made_next : (new : StoreState) → new ≡ begun mid both.lined [] both.beside → IsAbsent mid both.lined → IsAbsent mid both.beside → OthersStay (IsEither both.lined both.beside) mid new
      → AreMade files (i + 1) old new
  made_next new begins lined beside others = record {
    made = begins ∙ ap (λ (s : StoreState). begun s both.lined [] both.beside) so_far.made
        ∙ sym (ap (all_made old) (named_here files i both below is) ∙ made_more (take i (all_names files)) (names_of both) old);
    fresh = subst (AreNew old) (sym (named_here files i both below is)) (new_more (take i (all_names files)) (names_of both) old so_far.fresh (new_here both.lined lined) (new_here both.beside beside));
    others = others_next new others;
  }

  pub there_at : (new : StoreState) (side : Both → List ℕ) → new ≡ mid → IsThere mid (side both) → IsStopped files i side old new
  there_at new side same there = (both, here, subst (AreMade files i old) (sym same) so_far, subst (λ (s : StoreState). IsThere s (side both)) (sym same) there)

  pub failed_at : (new : StoreState) → Rose mid.faults new.faults → mid.faults ≤ new.faults → OthersStay (IsEither both.lined both.beside) mid new
      → IsMade files old new (made.Went (lack.Unwritten i))
  failed_at new rose rises others = (
    goes_failed files (λ store. all_made store (all_names files)) old new i below (subst (λ (n : ℕ). Rose n new.faults) mid_faults rose) (omega (arith, mid_faults, rises)) (others_next new others),
    λ never. absurd (cc),
  )

  pub wanting_at : (new : StoreState) → new.faults ≡ mid.faults → OthersStay (IsEither both.lined both.beside) mid new → IsMade files old new (made.Went lack.NoMemory)
  wanting_at new quiet others = (
    goes_wanting files (λ store. all_made store (all_names files)) old new (quiet ∙ mid_faults) (others_next new others),
    λ never. absurd (cc),
  )

pub all_made_at : (files : List Both) (i : ℕ) (old mid : StoreState) → length files ≤ i → AreMade files i old mid → IsMade files old mid (made.Went lack.Nothing)
all_made_at files i old mid end so_far =
    let all : take i (all_names files) ≡ all_names files = take_all i (all_names files) (omega (arith, end, length-map files names_of)) in (
      goes_put files (λ store. all_made store (all_names files)) old mid (so_far.made ∙ ap (all_made old) all) (made_quiet files i old mid so_far) so_far.others,
      λ _. subst (AreNew old) all so_far.fresh,
    )
