-- Something is said exactly where values are refused.
use Rattle.std.proofs.Common.{◌≡◌, ◌≢◌, ◌⊎◌, ℕ, ◌+◌, ◌||◌, Bool, true, false, not, List, [], ◌∷◌, ◌++◌, append-nil, length, map, filter, Option, Some, None, Ok, Err, refl, sym, ap, ◌∙◌, subst, inl, inr}
use Rattle.std.specs.Prelude.{nat_lt}
use Rattle.std.specs.List.{AllByRecursion, AllZip, flat_map, list_any}
use Rattle.std.specs.Option.{option_to_list}
use Rattle.std.specs.Str.{bytes_eq}
use Rattle.anb_lemmas.proofs.Lists.{both_empty}
use Rattle.anb_base.specs.declared.TheConstants.{ARRIVAL}
use Rattle.anb_index.specs.Places.{among}
use Rattle.anb_values.specs.Fit.{BeginsWith, Fit, faults, has_line, line_faults, lines_faults}
use Rattle.anb_values.specs.Fit.{labels_of as labels_on}
use Rattle.anb_values.specs.Fit.{missing as missing_faults}
use Rattle.anb_values.specs.Lines.{AreSaid, IsFirstFaulty, lines_of, seed_label}
use Rattle.anb_values.specs.Lines.{Says as Spoken}
use Rattle.anb_values.specs.declared.fitted.Fitted.{Fitted}
use Rattle.anb_values.specs.declared.refusal.ValuesNo.{ValuesNo}
use Rattle.anb_values.specs.declared.refusal.ValuesNo.TheVariants.{Line, Extra, Twice, Long, Missing, NoMemory}
use Rattle.anb_values.proofs.FitLemmas.{extra_first, twice_first}
use Rattle.anb_mistakes.specs.Pointing.{pointed_in}
use Rattle.anb_value_mistakes.specs.Laws.{MistakesAreFaults, MistakesTextsAreOne}
use Rattle.anb_value_mistakes.specs.Mistakes.{IsMistakesText, faulty_text, faulty_texts, is_faulty, label_texts, label_wrong, labels_of, missing, missing_text, mistakes, remark_text, with_commas}
use Rattle.anb_value_mistakes.specs.Reading.{IsRead}
use Rattle.anb_value_mistakes.specs.declared.labels.Remark.{Remark}
use Rattle.anb_value_mistakes.specs.declared.reading.Saying.TheVariants.{Nothing, Label, Faulty}
use Rattle.anb_value_mistakes.specs.declared.reading.ReadLine.{ReadLine}
use Rattle.anb_value_mistakes.proofs.Alone.{Entry, IsWhole, Reads, all_read, faulty_alone, lines_whole, read_alone}

-- ---- texts that aren't empty

front_stays : {A : Type 0} (xs ys : List A) → xs ≢ [] → xs ++ ys ≢ []
front_stays xs ys some none = some (both_empty xs ys none).0

back_stays : {A : Type 0} (xs ys : List A) → ys ≢ [] → xs ++ ys ≢ []
back_stays xs ys some none = some (both_empty xs ys none).1

pointed_some : (name : List ℕ) (number : ℕ) (line : List ℕ) (before : ℕ) (message mend : List ℕ) → pointed_in name number line before message mend ≢ []
pointed_some name number line before message mend = front_stays _ _ (back_stays name _ (λ none. cc))

module _ (name : List ℕ) where
  remark_some : (number : ℕ) (line : List ℕ) (remark : Option Remark) → remark_text name number line remark ≡ [] → remark ≡ None
  remark_some number line None none = refl
  remark_some number line (Some remark) none = absurd (pointed_some name number line _ remark.message remark.mend none)

  missing_some : (names : List (List ℕ)) → missing_text name (with_commas names) ≡ [] → names ≡ []
  missing_some [] none = refl
  missing_some (one ∷ names) none = absurd (back_stays name _ (λ e. cc) none)

  missing_none : (names : List (List ℕ)) → names ≡ [] → missing_text name (with_commas names) ≡ []
  missing_none names none = rw none refl

-- ---- the labels of lines

module _ (name : List ℕ) (names : List (List ℕ)) where
  abbrev Asked : List (List ℕ)
  Asked = seed_label ∷ names

  abbrev wrong : List (List ℕ) → Entry → Option Remark
  wrong before entry = label_wrong names before (nat_lt ARRIVAL (length entry.value)) entry.label

  abbrev Agree : List (List ℕ) → Entry → Type 0
  Agree before entry = ((line_faults Asked before entry ≡ []) × (label_wrong names before (nat_lt ARRIVAL (length entry.value)) entry.label ≡ None))
      ⊎ ((line_faults Asked before entry ≢ []) × (label_wrong names before (nat_lt ARRIVAL (length entry.value)) entry.label ≢ None))

  first_some : (fs : List ValuesNo) (fault : ValuesNo) → BeginsWith fs fault → fs ≢ []
  first_some fs fault (rest, is) none = let never = sym is ∙ none in cc

  agree : (before : List (List ℕ)) (entry : Entry) → Agree before entry
  agree before entry = by (among Asked entry.label) (among before entry.label) (nat_lt ARRIVAL (length entry.value)) refl refl refl where
    by : (a b c : Bool) → among Asked entry.label ≡ a → among before entry.label ≡ b → nat_lt ARRIVAL (length entry.value) ≡ c → Agree before entry
    by false b c p q r = inr (first_some _ _ (extra_first Asked before entry p), rw p (λ none. cc))
    by true true c p q r = inr (first_some _ _ (twice_first Asked before entry p q), rw (p, q) (λ none. cc))
    by true false true p q r = inr (rw (p, q, r) (λ none. cc), rw (p, q, r) (λ none. cc))
    by true false false p q r = inl (rw (p, q, r) refl, rw (p, q, r) refl)

  abbrev Quiet : ℕ → List (List ℕ) → List Entry → List ReadLine → Type 0
  Quiet number before entries reads =
      (lines_faults Asked before entries ≡ [] → label_texts name names number before reads ≡ [])
      × (label_texts name names number before reads ≡ [] → lines_faults Asked before entries ≡ [])

  -- a line without a label
  past : (number : ℕ) (before : List (List ℕ)) (entries : List Entry) (read : ReadLine) (reads : List ReadLine) → Reads None read → Quiet (number + 1) before entries reads → Quiet number before entries (read ∷ reads)
  past number before entries read reads is rest =
      let said : read.said ≡ Nothing = is.0 in
      let step : label_texts name names number before (read ∷ reads) ≡ label_texts name names (number + 1) before reads =
      rw said (ap (λ b. label_texts name names (number + 1) b reads) (append-nil before)) in
      ((λ none. step ∙ rest.0 none), (λ none. rest.1 (sym step ∙ none)))

  -- a line with one
  labelled : (number : ℕ) (before : List (List ℕ)) (entry : Entry) (entries : List Entry) (read : ReadLine) (reads : List ReadLine) → Reads (Some entry) read
      → Quiet (number + 1) (before ++ entry.label ∷ []) entries reads → Quiet number before (entry ∷ entries) (read ∷ reads)
  labelled number before entry entries read reads is rest = by (agree before entry) where
    said : read.said ≡ Label entry.label
    said = is.0

    long : read.is_long ≡ nat_lt ARRIVAL (length entry.value)
    long = is.1

    here : List ℕ
    here = remark_text name number read.line (wrong before entry)

    more : List ℕ
    more = label_texts name names (number + 1) (before ++ entry.label ∷ []) reads

    step : label_texts name names number before (read ∷ reads) ≡ here ++ more
    step = rw (said, long) refl

    by : Agree before entry → Quiet number before (entry ∷ entries) (read ∷ reads)
    by (inl (quiet, none)) = (
      (λ e. step ∙ ap (λ (r : Option Remark). remark_text name number read.line r ++ more) none ∙ rest.0 (both_empty (line_faults Asked before entry) _ e).1),
      (λ e. ap (λ (fs : List ValuesNo). fs ++ lines_faults Asked (before ++ entry.label ∷ []) entries) quiet ∙ rest.1 (both_empty here more (sym step ∙ e)).1),
    )
    by (inr (loud, some)) = (
      (λ e. absurd (loud (both_empty (line_faults Asked before entry) _ e).0)),
      (λ e. absurd (some (remark_some name number read.line (wrong before entry) (both_empty here more (sym step ∙ e)).0))),
    )

  abbrev entries_in : List (Option Entry) → List Entry
  entries_in said = flat_map option_to_list said

  quiet : (number : ℕ) (before : List (List ℕ)) (said : List (Option Entry)) (reads : List ReadLine) → AllZip Reads said reads → Quiet number before (entries_in said) reads
  quiet number before [] [] all = ((λ none. refl), (λ none. refl))
  quiet number before [] (read ∷ reads) all = absurd all
  quiet number before (one ∷ said) [] all = absurd all
  quiet number before (None ∷ said) (read ∷ reads) all = past number before (entries_in said) read reads all.0 (quiet (number + 1) before said reads all.1)
  quiet number before (Some entry ∷ said) (read ∷ reads) all =
      labelled number before entry (entries_in said) read reads all.0 (quiet (number + 1) (before ++ entry.label ∷ []) said reads all.1)

  -- ---- names without a line

  labels_are : (said : List (Option Entry)) (reads : List ReadLine) → AllZip Reads said reads → labels_of reads ≡ labels_on (entries_in said)
  labels_are [] [] all = refl
  labels_are [] (read ∷ reads) all = absurd all
  labels_are (one ∷ said) [] all = absurd all
  labels_are (None ∷ said) (read ∷ reads) all = let is : read.said ≡ Nothing = all.0.0 in rw is (labels_are said reads all.1)
  labels_are (Some entry ∷ said) (read ∷ reads) all = let is : read.said ≡ Label entry.label = all.0.0 in rw is (ap (λ ls. entry.label ∷ ls) (labels_are said reads all.1))

  has_label : (entries : List Entry) (label : List ℕ) → among (labels_on entries) label ≡ has_line entries label
  has_label [] label = refl
  has_label (entry ∷ entries) label = ap (λ b. bytes_eq entry.label label || b) (has_label entries label)

  missing_are : (entries : List Entry) → map Missing (missing names (labels_on entries)) ≡ missing_faults names entries
  missing_are entries = λ i. map Missing (filter (λ label. not (has_label entries label i)) names)

  -- ---- lines that are of the grammar

  none_faulty : (said : List (Option Entry)) (reads : List ReadLine) → AllZip Reads said reads → list_any (λ (read : ReadLine). is_faulty read.said) reads ≡ false
  none_faulty [] [] all = refl
  none_faulty [] (read ∷ reads) all = absurd all
  none_faulty (one ∷ said) [] all = absurd all
  none_faulty (None ∷ said) (read ∷ reads) all = let is : read.said ≡ Nothing = all.0.0 in rw is (none_faulty said reads all.1)
  none_faulty (Some entry ∷ said) (read ∷ reads) all = let is : read.said ≡ Label entry.label = all.0.0 in rw is (none_faulty said reads all.1)

  module _ (said : List (Option Entry)) (reads : List ReadLine) (all : AllZip Reads said reads) where
    abbrev texts : List ℕ
    texts = label_texts name names 1 [] reads

    abbrev lacks : List ℕ
    lacks = missing_text name (with_commas (missing names (labels_of reads)))

    told : mistakes name names reads ≡ texts ++ lacks
    told = rw (none_faulty said reads all) refl

    absent : map Missing (missing names (labels_of reads)) ≡ missing_faults names (entries_in said)
    absent = ap (λ ls. map Missing (missing names ls)) (labels_are said reads all) ∙ missing_are (entries_in said)

    unmapped : (ls : List (List ℕ)) → map Missing ls ≡ [] → ls ≡ []
    unmapped [] none = refl
    unmapped (l ∷ ls) none = cc

    silent : faults names (entries_in said) ≡ [] → mistakes name names reads ≡ []
    silent none =
        let parts = both_empty (lines_faults Asked [] (entries_in said)) (missing_faults names (entries_in said)) none in
        let first : texts ≡ [] = (quiet 1 [] said reads all).0 parts.0 in
        let last : lacks ≡ [] = missing_none name _ (unmapped _ (absent ∙ parts.1)) in
        told ∙ ap (λ t. t ++ lacks) first ∙ last

    faultless : mistakes name names reads ≡ [] → faults names (entries_in said) ≡ []
    faultless none =
        let parts = both_empty texts lacks (sym told ∙ none) in
        let first : lines_faults Asked [] (entries_in said) ≡ [] = (quiet 1 [] said reads all).1 parts.0 in
        let last : missing_faults names (entries_in said) ≡ [] = sym absent ∙ ap (map Missing) (missing_some name _ parts.1) in
        ap (λ fs. fs ++ missing_faults names (entries_in said)) first ∙ last

-- ---- lines that aren't

module _ (name : List ℕ) where
  abbrev Loud : List ReadLine → Type 0
  Loud reads = (list_any (λ (read : ReadLine). is_faulty read.said) reads ≡ true) × ((number : ℕ) → faulty_texts name number reads ≢ [])

  loud : (before : List (List ℕ)) (line : List ℕ) (after : List (List ℕ)) (reads : List ReadLine) → AllByRecursion IsWhole (before ++ line ∷ after) → AllZip IsRead (before ++ line ∷ after) reads
      → ((said : Option Entry) → Spoken line said → ⊥) → Loud reads
  loud [] line after [] whole all unsaid = absurd all
  loud [] line after (read ∷ reads) whole all unsaid =
      let is : read.said ≡ Faulty = faulty_alone line whole.0 unsaid read all.0 in
      (rw is refl, (λ number. front_stays (faulty_text name number read) (faulty_texts name (number + 1) reads) (rw is (pointed_some name number read.line _ _ _))))
  loud (b ∷ before) line after [] whole all unsaid = absurd all
  loud (b ∷ before) line after (read ∷ reads) whole all unsaid =
      let rest = loud before line after reads whole.1 all.1 unsaid in
      (either (is_faulty read.said) rest.0, (λ number. back_stays (faulty_text name number read) (faulty_texts name (number + 1) reads) (rest.1 (number + 1)))) where
        either : (here : Bool) {there : Bool} → there ≡ true → (here || there) ≡ true
        either true e = refl
        either false e = e

-- ---- both

reads_said : (lines : List (List ℕ)) (said : List (Option Entry)) (reads : List ReadLine) → AllByRecursion IsWhole lines → AllZip Spoken lines said → AllZip IsRead lines reads → AllZip Reads said reads
reads_said [] [] [] whole spoken read = tt
reads_said [] [] (r ∷ rs) whole spoken read = absurd read
reads_said [] (s ∷ ss) reads whole spoken read = absurd spoken
reads_said (l ∷ ls) [] reads whole spoken read = absurd spoken
reads_said (l ∷ ls) (s ∷ ss) [] whole spoken read = absurd read
reads_said (l ∷ ls) (s ∷ ss) (r ∷ rs) whole spoken read = (read_alone l whole.0 s spoken.0 r read.0, reads_said ls ss rs whole.1 spoken.1 read.1)

module _ (name x : List ℕ) (names : List (List ℕ)) (text : List ℕ) (is : IsMistakesText name x names text) where
  zipped : (entries : List Entry) (s : AreSaid (lines_of x) entries) → AllZip Reads s.0 is.reads
  zipped entries (said, spoken, same) = reads_said (lines_of x) said is.reads (lines_whole x) spoken is.are

  none_said : (fitted : Fitted) → Fit x names (Ok fitted) → text ≡ []
  none_said fitted (entries, said, none, values, seed) =
      is.is ∙ silent name names said.0 is.reads (zipped entries said) (subst (λ es. faults names es ≡ []) said.2 none)

  some_of_entries : (entries : List Entry) → AreSaid (lines_of x) entries → (fault : ValuesNo) → BeginsWith (faults names entries) fault → text ≢ []
  some_of_entries entries said fault (rest, first) none =
      let quiet : faults names entries ≡ [] = subst (λ es. faults names es ≡ []) (sym said.2) (faultless name names said.0 is.reads (zipped entries said) (sym is.is ∙ none)) in
      let never = sym first ∙ quiet in cc

  some_of_lines : (n : ℕ) → IsFirstFaulty (lines_of x) n → text ≢ []
  some_of_lines n (before, line, after, entries, lines, at, said, unsaid) none =
      let told = loud name before line after is.reads (subst (AllByRecursion IsWhole) lines (lines_whole x)) (subst (λ ls. AllZip IsRead ls is.reads) lines is.are) unsaid in
      let whole : mistakes name names is.reads ≡ faulty_texts name 1 is.reads = rw told.0 refl in
      told.1 1 (sym whole ∙ sym is.is ∙ none)

  some_said : (why : ValuesNo) → Fit x names (Err why) → text ≢ []
  some_said (Line n) first = some_of_lines n first
  some_said (Extra label) (entries, said, first) = some_of_entries entries said _ first
  some_said (Twice label) (entries, said, first) = some_of_entries entries said _ first
  some_said (Long label) (entries, said, first) = some_of_entries entries said _ first
  some_said (Missing label) (entries, said, first) = some_of_entries entries said _ first
  some_said NoMemory (entries, said, first) = some_of_entries entries said _ first

pub mistakes_are_faults : MistakesAreFaults
mistakes_are_faults name x names text is = (none_said name x names text is, some_said name x names text is)

pub texts_are_one : MistakesTextsAreOne
texts_are_one name x names text other is also = is.is ∙ ap (mistakes name names) (all_read (lines_of x) is.reads also.reads is.are also.are) ∙ sym also.is
