-- The values of labels that differ are found again.
use Rattle.std.proofs.Common.{◌≡◌, ◌≢◌, ◌<◌, ◌≤◌, ◌+◌, ◌||◌, ℕ, zero, suc, Bool, true, false, cond, List, [], ◌∷◌, ◌++◌, length, map, Option, Some, None, refl, sym, ap, ◌∙◌, arith}
use Rattle.std.specs.Prelude.{AllPairs, find, nat_lt, slice_index_or}
use Rattle.std.specs.List.{AllByRecursion}
use Rattle.std.specs.Option.{option_map}
use Rattle.std.specs.Str.{bytes_eq}
use Rattle.std.proofs.lemmas.Bool.Decides.{nat_tests}
use Rattle.anb_lemmas.proofs.Each.{each_by}
use Rattle.anb_lemmas.proofs.Items.{bytes_eq-same, bytes_differ}
use Rattle.anb_base.specs.declared.TheConstants.{ARRIVAL}
use Rattle.anb_index.specs.Places.{among}
use Rattle.anb_values.specs.declared.refusal.ValuesNo.{ValuesNo}
use Rattle.anb_values.specs.Fit.{extra, twice, long, line_faults, lines_faults, missing, value_of}
use Rattle.anb_values.proofs.FitLemmas.{missing_after}
use Rattle.anb_values_text.proofs.LineOf.{EntryValue, entry}

-- each differs from all behind it
abbrev pub AreApart : List (List ℕ) → Type 0
AreApart [] = Unit {0}
AreApart (l ∷ ls) = AllByRecursion (λ m. l ≢ m) ls × AreApart ls

first_apart : (l : List ℕ) (ls : List (List ℕ)) → ((k : ℕ) (d : List ℕ) → k < length ls → l ≢ slice_index_or ls k d) → AllByRecursion (λ m. l ≢ m) ls
first_apart l [] each = tt
first_apart l (m ∷ ls) each = (each 0 [] (omega arith), first_apart l ls (λ k d h. each (suc k) d (omega (arith, h))))

pub are_apart : (ls : List (List ℕ)) → AllPairs (λ one other. one ≢ other) ls → AreApart ls
are_apart [] differ = tt
are_apart (l ∷ ls) differ = (
  first_apart l ls (λ k d h. differ 0 (suc k) d (omega arith) (omega (arith, h))),
  are_apart ls (λ i j d below within. differ (suc i) (suc j) d (omega (arith, below)) (omega (arith, within))),
)

-- ---- lookups

abbrev pub entries_of : (labels values : List (List ℕ)) → List EntryValue
entries_of [] values = []
entries_of (l ∷ ls) [] = []
entries_of (l ∷ ls) (v ∷ vs) = entry l v ∷ entries_of ls vs

value_here : (label value : List ℕ) (es : List EntryValue) → value_of (entry label value ∷ es) label ≡ Some value
value_here label value es = ap (λ b. option_map (λ (e : EntryValue). e.value) (cond b (Some (entry label value)) (find (λ (e : EntryValue). bytes_eq e.label label) es))) (bytes_eq-same label)

value_past : (label value q : List ℕ) (es : List EntryValue) → label ≢ q → value_of (entry label value ∷ es) q ≡ value_of es q
value_past label value q es differ =
    ap (λ b. option_map (λ (e : EntryValue). e.value) (cond b (Some (entry label value)) (find (λ (e : EntryValue). bytes_eq e.label q) es))) (bytes_differ label q differ)

values_past : (label value : List ℕ) (es : List EntryValue) (ls : List (List ℕ)) → AllByRecursion (λ m. label ≢ m) ls → map (value_of (entry label value ∷ es)) ls ≡ map (value_of es) ls
values_past label value es [] all = refl
values_past label value es (l ∷ ls) all =
    ap (λ o. o ∷ map (value_of (entry label value ∷ es)) ls) (value_past label value l es all.0) ∙ ap (λ os. value_of es l ∷ os) (values_past label value es ls all.1)

pub values_found : (ls vs : List (List ℕ)) (back : List EntryValue) → AreApart ls → length vs ≡ length ls → map Some vs ≡ map (value_of (entries_of ls vs ++ back)) ls
values_found [] [] back apart count = refl
values_found [] (v ∷ vs) back apart count = absurd (omega (arith, count))
values_found (l ∷ ls) [] back apart count = absurd (omega (arith, count))
values_found (l ∷ ls) (v ∷ vs) back apart count =
    let es = entries_of ls vs ++ back in
    ap (λ os. Some v ∷ os) (values_found ls vs back apart.1 (omega (arith, count)) ∙ sym (values_past l v es ls apart.0))
    ∙ ap (λ o. o ∷ map (value_of (entry l v ∷ es)) ls) (sym (value_here l v es))

-- a label of none of these lines
pub found_behind : (ls vs : List (List ℕ)) (back : List EntryValue) (q : List ℕ) → AllByRecursion (λ m. m ≢ q) ls → value_of (entries_of ls vs ++ back) q ≡ value_of back q
found_behind [] vs back q all = refl
found_behind (l ∷ ls) [] back q all = refl
found_behind (l ∷ ls) (v ∷ vs) back q all = value_past l v q (entries_of ls vs ++ back) all.0 ∙ found_behind ls vs back q all.1

-- ---- no fault

pub none_missing : (es : List EntryValue) (ls vs : List (List ℕ)) → map Some vs ≡ map (value_of es) ls → missing ls es ≡ []
none_missing es [] vs found = refl
none_missing es (l ∷ ls) [] found = cc
none_missing es (l ∷ ls) (v ∷ vs) found =
    let here : value_of es l ≡ Some v = cc in
    let rest : map Some vs ≡ map (value_of es) ls = cc in
    missing_after l ls es v here ∙ none_missing es ls vs rest

among_behind : (before : List (List ℕ)) (l m : List ℕ) → among before m ≡ false → l ≢ m → among (before ++ l ∷ []) m ≡ false
among_behind [] l m new differ = ap (λ b. b || false) (bytes_differ l m differ)
among_behind (x ∷ before) l m new differ = by (bytes_eq x m) refl new (λ rest. among_behind before l m rest differ) where
  by : (b : Bool) → bytes_eq x m ≡ b → (b || among before m) ≡ false → (among before m ≡ false → among (before ++ l ∷ []) m ≡ false) → (bytes_eq x m || among (before ++ l ∷ []) m) ≡ false
  by true e never others = absurd (cc)
  by false e rest others = ap (λ b. b || among (before ++ l ∷ []) m) e ∙ others rest

each_behind : (before : List (List ℕ)) (l : List ℕ) (ls : List (List ℕ)) → AllByRecursion (λ m. among before m ≡ false) ls → AllByRecursion (λ m. l ≢ m) ls → AllByRecursion (λ m. among (before ++ l ∷ []) m ≡ false) ls
each_behind before l [] new differ = tt
each_behind before l (m ∷ ls) new differ = (among_behind before l m new.0 differ.0, each_behind before l ls new.1 differ.1)

fine_line : (asked before : List (List ℕ)) (e : EntryValue) → among asked e.label ≡ true → among before e.label ≡ false → length e.value ≤ ARRIVAL → line_faults asked before e ≡ []
fine_line asked before e known new short =
    let within : nat_lt ARRIVAL (length e.value) ≡ false = grind (arith, nat_tests, short) in
    rw (known, new, within) refl

-- a fine entry: its label is asked for, and its value is short
pub record IsFine (asked : List (List ℕ)) (e : EntryValue) : Type 0 where
  pub known : among asked e.label ≡ true
  pub short : length e.value ≤ ARRIVAL

abbrev pub labels : List EntryValue → List (List ℕ)
labels es = map (λ (e : EntryValue). e.label) es

pub fine_lines : (asked before : List (List ℕ)) (es : List EntryValue) → AllByRecursion (IsFine asked) es → AllByRecursion (λ m. among before m ≡ false) (labels es) → AreApart (labels es) → lines_faults asked before es ≡ []
fine_lines asked before [] fine new apart = refl
fine_lines asked before (e ∷ es) fine new apart =
    ap (λ fs. fs ++ lines_faults asked (before ++ e.label ∷ []) es) (fine_line asked before e fine.0.known new.0 fine.0.short)
    ∙ fine_lines asked (before ++ e.label ∷ []) es fine.1 (each_behind before e.label (labels es) new.1 apart.0) apart.1

pub none_before : (ls : List (List ℕ)) → AllByRecursion (λ m. among [] m ≡ false) ls
none_before [] = tt
none_before (l ∷ ls) = (refl, none_before ls)

among_more : (x m : List ℕ) (ls : List (List ℕ)) → among ls m ≡ true → among (x ∷ ls) m ≡ true
among_more x m ls h = by (bytes_eq x m) where
  by : (b : Bool) → (b || among ls m) ≡ true
  by true = refl
  by false = h

among_self : (m : List ℕ) (ls : List (List ℕ)) → among (m ∷ ls) m ≡ true
among_self m ls = ap (λ b. b || among ls m) (bytes_eq-same m)

pub each_among : (ls : List (List ℕ)) → AllByRecursion (λ m. among ls m ≡ true) ls
each_among [] = tt
each_among (l ∷ ls) = (among_self l ls, each_by (λ m. among ls m ≡ true) (λ m. among (l ∷ ls) m ≡ true) (λ m h. among_more l m ls h) ls (each_among ls))
