-- The files of a record, and what stands in them.
use Rattle.std.proofs.Common.{◌≡◌, ◌≢◌, ◌<◌, ◌≤◌, ◌+◌, ◌^◌, ℕ, zero, suc, List, [], ◌∷◌, ◌++◌, length, Option, Some, refl, ap, sym, ◌∙◌, subst, inl, inr, arith, length-append}
use Rattle.std.specs.Prelude.{codes, decimal, slice_get}
use Rattle.std.specs.Option.{option_map}
use Rattle.std.proofs.lemmas.Fmt.{decimal_injective}
use Rattle.std.proofs.lemmas.List.{append_cancel_left, append_cancel_right}
use Rattle.anb_attempts.specs.declared.attempts.TheConstants.{MOST}
use Rattle.anb_recording.specs.Journals.{Files, IsAbsent}
use Rattle.anb_recording.specs.Lines.{lines_text}
use Rattle.anb_recorded.specs.Names.{values_in}
use Rattle.anb_recorded.specs.Outcomes.{AreAbsent}
use Rattle.anb_recorded.proofs.Holding.{with_other, with_same}
use Rattle.anb_store.specs.Stores.{StoreState, replaced, with_file}
use Rattle.anb_probe_commands.specs.Keeping.{all_told, put_told, told, told_from}
use Rattle.anb_probe_commands.specs.Plays.{CaseEnd}
use Rattle.anb_probe_commands.specs.Records.{HoldsCases, IsOfRecord, IsTranscriptOf, errors_of, transcript_of}

-- ---- names

tail_of : List ℕ → List ℕ
tail_of [] = []
tail_of (x ∷ xs) = xs

names_are_one : (folder : List ℕ) (m n : ℕ) → m < 2 ^ 64 → n < 2 ^ 64 → transcript_of folder m ≡ transcript_of folder n → m ≡ n
unfolding tail_of
names_are_one folder m n few less is =
    let behind : 47 ∷ (decimal m ++ codes ".transcript") ≡ 47 ∷ (decimal n ++ codes ".transcript") =
    append_cancel_left folder (47 ∷ (decimal m ++ codes ".transcript")) (47 ∷ (decimal n ++ codes ".transcript")) is in
    decimal_injective m n few less (append_cancel_right (decimal m) (decimal n) (codes ".transcript") (ap tail_of behind))

values_apart : (folder : List ℕ) (n : ℕ) → values_in folder ≢ transcript_of folder n
values_apart folder n is =
    let same : length (values_in folder) ≡ length (transcript_of folder n) = ap (length {A = ℕ}) is in
    let seven : length (codes "/values") ≡ 7 = refl in
    let eleven : length (codes ".transcript") ≡ 11 = refl in
    omega (
      arith,
      same,
      seven,
      eleven,
      length-append folder (codes "/values"),
      length-append folder (47 ∷ (decimal n ++ codes ".transcript")),
      length-append (decimal n) (codes ".transcript"),
    )

-- ---- none of the files is there

pub fresh_by : (folder : List ℕ) (store : StoreState) → IsAbsent store (values_in folder)
    → ((case : ℕ) → case < MOST → IsAbsent store (transcript_of folder (case + 1)))
    → ((case : ℕ) → case < MOST → IsAbsent store (errors_of folder (case + 1))) → AreAbsent (IsOfRecord folder) store
fresh_by folder store values transcripts errors name mine = by mine where
  by : IsOfRecord folder name → IsAbsent store name
  by (inl is) = subst (IsAbsent store) (sym is) values
  by (inr (case, below, inl is)) = subst (IsAbsent store) (sym is) (transcripts case below)
  by (inr (case, below, inr is)) = subst (IsAbsent store) (sym is) (errors case below)

-- ---- what they hold

same_some : {A : Type 0} (x y : A) → ◌≡◌ {A = Option A} (Some x) (Some y) → x ≡ y
same_some x y e = cc

-- behind the transcripts of cases that are numbered from here
record Holds (folder : List ℕ) (k : ℕ) (ends : List CaseEnd) (files : Files) (store : StoreState) : Type 0 where
  now : Files
  told_now : store.files ≡ Some now
  each : (case n : ℕ) (end : CaseEnd) → n ≡ k + case + 1 → slice_get ends case ≡ Some end → now (transcript_of folder n) ≡ Some (lines_text end.lines)
  others : (name : List ℕ) → ((n : ℕ) → k < n → n ≤ k + length ends → name ≢ transcript_of folder n) → now name ≡ files name

module _ (folder : List ℕ) (e : CaseEnd) (ends : List CaseEnd) (k : ℕ) (few : k + length (e ∷ ends) ≤ MOST) (store : StoreState) (files : Files) where
  abbrev own : List ℕ
  own = transcript_of folder (k + 1)

  abbrev text : List ℕ
  text = lines_text e.lines

  abbrev behind : Files
  behind = with_file files own text

  holds_more : Holds folder (k + 1) ends behind store → Holds folder k (e ∷ ends) files store
  holds_more rest = record {
    now = rest.now;
    told_now = rest.told_now;
    each = at_each;
    others = λ name other. rest.others name (λ n over under. other n (omega (arith, over)) (omega (arith, under))) ∙ with_other files own text name (other (k + 1) (omega arith) (omega arith));
  } where
    stays : rest.now own ≡ Some text
    stays = rest.others own (λ n over under is. absurd (let one = names_are_one folder (k + 1) n (omega (arith, few)) (omega (arith, few, under)) is in omega (arith, one, over))) ∙ with_same files own text

    at_each : (case n : ℕ) (end : CaseEnd) → n ≡ k + case + 1 → slice_get (e ∷ ends) case ≡ Some end → rest.now (transcript_of folder n) ≡ Some (lines_text end.lines)
    at_each zero n end is at =
        let first : n ≡ k + 1 = omega (arith, is) in
        rw first (stays ∙ ap (λ (x : CaseEnd). Some (lines_text x.lines)) (same_some e end at))
    at_each (suc case) n end is at = rest.each case n end (omega (arith, is)) at

holds_from : (folder : List ℕ) (ends : List CaseEnd) (k : ℕ) → k + length ends ≤ MOST → (store : StoreState) (files : Files) → store.files ≡ Some files
    → Holds folder k ends files (all_told folder store (told_from k ends))
holds_from folder [] k few store files here = record {
  now = files;
  told_now = here;
  each = λ case n end is at. absurd (let never = at in cc);
  others = λ name other. refl;
}
holds_from folder (e ∷ ends) k few store files here =
    holds_more folder e ends k few (all_told folder (put_told folder store (told k e.lines)) (told_from (k + 1) ends)) files
    (holds_from folder ends (k + 1) (omega (arith, few)) (put_told folder store (told k e.lines)) (with_file files (transcript_of folder (k + 1)) (lines_text e.lines))
    (ap (λ (o : Option Files). option_map (λ (f : Files). with_file f (transcript_of folder (k + 1)) (lines_text e.lines)) o) here))

pub holds_cases : (folder values : List ℕ) (store mid now : StoreState) (ends : List CaseEnd) → length ends ≤ MOST → mid ≡ replaced store (values_in folder) values → now ≡ all_told folder mid (told_from 0 ends)
    → HoldsCases folder store now values ends
holds_cases folder values store mid now ends few made is files here = (
  all.now,
  ap (λ (s : StoreState). s.files) is ∙ all.told_now,
  all.others (values_in folder) (λ n over under. values_apart folder n) ∙ with_same files (values_in folder) values,
  λ case end at. all.each case (case + 1) end (omega arith) at,
  λ name other rest. all.others name (λ n over under same. by name other rest n over under same) ∙ with_other files (values_in folder) values name other,
) where
  first : Files
  first = with_file files (values_in folder) values

  made_files : mid.files ≡ Some first
  made_files = ap (λ (s : StoreState). s.files) made ∙ rw here refl

  all : Holds folder 0 ends first (all_told folder mid (told_from 0 ends))
  all = holds_from folder ends 0 (omega (arith, few)) mid first made_files

  by : (name : List ℕ) → name ≢ values_in folder → (IsTranscriptOf folder ends name → ⊥) → (n : ℕ) → 0 < n → n ≤ 0 + length ends → name ≡ transcript_of folder n → ⊥
  by name other rest zero over under same = absurd (omega (arith, over))
  by name other rest (suc n) over under same = rest (n, omega (arith, under), same ∙ ap (transcript_of folder) (as_sum n)) where
    as_sum : (i : ℕ) → suc i ≡ i + 1
    as_sum i = omega arith
