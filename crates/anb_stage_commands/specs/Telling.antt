-- How the log of a record goes on, note by note. For proofs alone.
use Rattle.std.specs.Prelude.{◌≡◌, ◌≢◌, ◌⊎◌, ◌<◌, ◌≤◌, ℕ, suc, Bool, true, false, List, [], ◌∷◌, ◌++◌, length, map, take, slice_get, Option, Some, None}
use Rattle.std.specs.Option.{option_map}
use Rattle.std.proofs.Common.{arith, ap, refl, sym, subst, ◌∙◌, inl, inr}
use Rattle.anb_base.specs.Moves.{Rose}
use Rattle.anb_base.proofs.Moving.{Rose-later}
use Rattle.anb_recording.specs.Joining.{others_joined, others_still}
use Rattle.anb_recording.specs.Journals.{IsThere, OthersStay}
use Rattle.anb_recorded.specs.declared.ended.Missing.{Missing}
use Rattle.anb_recorded.specs.declared.ended.Missing.TheVariants as missing
use Rattle.anb_stage.specs.Notes.{Note}
use Rattle.anb_store.specs.Stores.{StoreState}
use Rattle.anb_stage_commands.specs.Records.{AreNew, all_made, last_line, own_line, put_to, reported_line}
use Rattle.anb_stage_commands.specs.declared.files.Both.{Both}
use Rattle.anb_stage_commands.specs.declared.record.Lack.{Lack}
use Rattle.anb_stage_commands.specs.declared.record.Lack.TheVariants as lack
use Rattle.anb_stage_commands.specs.declared.record.Made.{Made}
use Rattle.anb_stage_commands.specs.declared.record.Made.TheVariants as made

-- the names of files that are made at once
abbrev pub names_of : Both → List ℕ × List ℕ
names_of both = (both.lined, both.beside)

abbrev pub all_names : List Both → List (List ℕ × List ℕ)
all_names files = map names_of files

-- the file of lines at a place
abbrev pub lined_at : List (List ℕ × List ℕ) → (place : ℕ) → Option (List ℕ)
lined_at names place = option_map (λ (both : List ℕ × List ℕ). both.0) (slice_get names place)

-- the store behind a note
abbrev pub put_report : List (List ℕ × List ℕ) → Note → Bool → StoreState → StoreState
put_report names note false store = store
put_report names note true store = put_to store (lined_at names 0) (reported_line note)

abbrev pub put_note : List (List ℕ × List ℕ) → Note → StoreState → StoreState
put_note names note store =
    put_report names note note.heard (put_to store (lined_at names (suc note.role)) (own_line note))

abbrev pub all_put : List (List ℕ × List ℕ) → List Note → StoreState → StoreState
all_put names [] store = store
all_put names (note ∷ more) store = all_put names more (put_note names note store)

-- one of these files
abbrev pub IsOfThese : List Both → List ℕ → Type 0
IsOfThese files name =
    (place : ℕ) × (both : Both) × (slice_get files place ≡ Some both)
    × ((name ≡ both.lined) ⊎ (name ≡ both.beside))

-- a file couldn't be written, which is one of so many
abbrev pub IsUnwritten : Lack → Type 0
IsUnwritten l = (place : ℕ) × (l ≡ lack.Unwritten place)

abbrev pub IsPlace : ℕ → Lack → Type 0
IsPlace count (lack.Unwritten place) = place < count
IsPlace count l = Unit {0}

-- The store before and after something was to be put to it, by what is missing before and after.
pub record Goes (files : List Both) (old new : StoreState) (before after : Lack) (put : StoreState → StoreState) : Type 0 where
  pub stuck : before ≢ lack.Nothing → (after ≡ before) × (new ≡ old)
  pub whole : after ≡ lack.Nothing → (before ≡ lack.Nothing) × (new ≡ put old)
  pub failed : IsUnwritten after → IsUnwritten before ⊎ Rose old.faults new.faults
  pub quiet : (IsUnwritten after → ⊥) → new.faults ≡ old.faults
  pub never_falls : old.faults ≤ new.faults
  pub place : IsPlace (length files) before → IsPlace (length files) after
  pub others : OthersStay (IsOfThese files) old new

not_nothing : (l : Lack) → IsUnwritten l → l ≢ lack.Nothing
not_nothing l is none = let e : lack.Unwritten is.0 ≡ lack.Nothing = sym is.1 ∙ none in cc

pub goes_nowhere : (files : List Both) (store : StoreState) (l : Lack) → Goes files store store l l (λ s. s)
goes_nowhere files store l = record {
  stuck = λ is. (refl, refl);
  whole = λ is. (is, refl);
  failed = λ is. inl is;
  quiet = λ is. refl;
  never_falls = omega arith;
  place = λ is. is;
  others = others_still (IsOfThese files) store;
}

module _ (files : List Both) (a b c : StoreState) (k l m : Lack) (one_put two_put : StoreState → StoreState)
    (one : Goes files a b k l one_put) (two : Goes files b c l m two_put) where
  failed_joined : IsUnwritten m → IsUnwritten k ⊎ Rose a.faults c.faults
  failed_joined is = elim (two.failed is) [
    | inl mid ↦ elim (one.failed mid) [
      | inl was ↦ inl was
      | inr rose ↦ inr (subst (λ (s : StoreState). Rose a.faults s.faults) (sym (two.stuck (not_nothing l mid)).1) rose)
    ]
    | inr rose ↦ inr (Rose-later a.faults b.faults c.faults one.never_falls rose)
  ]

  pub goes_further : Goes files a c k m (λ s. two_put (one_put s))
  goes_further = record {
    stuck = λ not.
        let o = one.stuck not in
        let t = two.stuck (λ is. not (sym o.0 ∙ is)) in
        (t.0 ∙ o.0, t.1 ∙ o.1);
    whole = λ is.
        let t = two.whole is in
        let o = one.whole t.0 in
        (o.0, t.1 ∙ ap two_put o.1);
    failed = failed_joined;
    quiet = λ not. two.quiet not ∙ one.quiet (λ is. not (subst IsUnwritten (sym (two.stuck (not_nothing l is)).0) is));
    never_falls = omega (arith, one.never_falls, two.never_falls);
    place = λ is. two.place (one.place is);
    others = others_joined (IsOfThese files) a b c one.others two.others;
  }

put_joined : (names : List (List ℕ × List ℕ)) (xs ys : List Note) (store : StoreState)
    → all_put names (xs ++ ys) store ≡ all_put names ys (all_put names xs store)
put_joined names [] ys store = refl
put_joined names (x ∷ xs) ys store = put_joined names xs ys (put_note names x store)

pub goes_as : (files : List Both) (a b : StoreState) (k l : Lack) (f g : StoreState → StoreState) → ((s : StoreState) → f s ≡ g s) → Goes files a b k l f → Goes files a b k l g
goes_as files a b k l f g same goes = record {
  stuck = goes.stuck;
  whole = λ is. let w = goes.whole is in (w.0, w.1 ∙ same a);
  failed = goes.failed;
  quiet = goes.quiet;
  never_falls = goes.never_falls;
  place = goes.place;
  others = goes.others;
}

-- what is said of a log under way: it writes to the same files of the same store
abbrev pub TellsOn : (name name_now : ℕ) (files files_now : List Both) (old new : StoreState) (before after : Lack) → List Note → Type 0
TellsOn name name_now files files_now old new before after told =
    (name_now ≡ name) × (files_now ≡ files) × Goes files old new before after (all_put (all_names files) told)

pub tells_still : (name : ℕ) (files : List Both) (store : StoreState) (l : Lack) → TellsOn name name files files store store l l []
tells_still name files store l = (refl, refl, goes_nowhere files store l)

pub tells_on : (name mid last : ℕ) (files files_mid files_last : List Both) (a b c : StoreState) (k l m : Lack) (some more : List Note)
    → TellsOn name mid files files_mid a b k l some → TellsOn mid last files_mid files_last b c l m more → TellsOn name last files files_last a c k m (some ++ more)
tells_on name mid last files files_mid files_last a b c k l m some more one two =
    let second : Goes files b c l m (all_put (all_names files) more) = subst (λ (n : List Both). Goes n b c l m (all_put (all_names n) more)) one.1 two.2 in
    let all = goes_further files a b c k l m (all_put (all_names files) some) (all_put (all_names files) more) one.2 second in (
      two.0 ∙ one.0,
      two.1 ∙ one.1,
      goes_as files a c k m _ _ (λ s. sym (put_joined (all_names files) some more s)) all,
    )

-- the name of the file of lines, where there is one
abbrev pub lined_or : Option Both → List ℕ
lined_or None = []
lined_or (Some both) = both.lined

abbrev pub beside_or : Option Both → List ℕ
beside_or None = []
beside_or (Some both) = both.beside

-- so many files were made, none of which was there
pub record AreMade (files : List Both) (count : ℕ) (old new : StoreState) : Type 0 where
  pub made : new ≡ all_made old (take count (all_names files))
  pub fresh : AreNew old (take count (all_names files))
  pub others : OthersStay (IsOfThese files) old new

-- and one of the next two is there already
abbrev pub IsStopped : List Both → (place : ℕ) → (side : Both → List ℕ) → (old new : StoreState) → Type 0
IsStopped files place side old new =
    (both : Both) × (slice_get files place ≡ Some both)
    × AreMade files place old new × IsThere new (side both)

-- what came of making all files
abbrev pub IsMade : List Both → (old new : StoreState) → Made → Type 0
IsMade files old new (made.Went l) =
    Goes files old new lack.Nothing l (λ store. all_made store (all_names files))
    × (l ≡ lack.Nothing → AreNew old (all_names files))
IsMade files old new (made.First place) = IsStopped files place (λ both. both.lined) old new
IsMade files old new (made.Second place) = IsStopped files place (λ both. both.beside) old new

-- what is missing, with the name of a file
abbrev pub missing_of : List Both → Lack → Missing
missing_of files lack.Nothing = missing.Nothing
missing_of files (lack.Unwritten place) = missing.Unwritten (lined_or (slice_get files place))
missing_of files lack.NoMemory = missing.NoMemory

-- what becomes of a log where all of these messages were handed on
abbrev pub put_all : List (List ℕ × List ℕ) → List Note → (count : ℕ) → StoreState → StoreState
put_all names told count store = put_to (all_put names told store) (lined_at names 0) (last_line count)
