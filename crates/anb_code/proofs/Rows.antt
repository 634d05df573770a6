-- The rows of an instruction, and faults along a list.
use Rattle.std.proofs.Common.{◌≡◌, ◌<◌, ◌+◌, not, ℕ, Bool, true, false, List, [], ◌∷◌, ◌++◌, length, take, drop, get_or, refl}
use Rattle.std.proofs.lemmas.List.{drop_more, take_more}
use Rattle.anb_format.specs.Formats.{FormatValue}
use Rattle.anb_code.specs.declared.refusal.CodeNo.{CodeNo}
use Rattle.anb_code.specs.declared.refusal.CodeNo.TheVariants.{Late, TakeTwice, BadFormat, Unwritten, Order, Wide}
use Rattle.anb_code.specs.RawValue.{RawInstrValue}
use Rattle.anb_code.specs.Table.{BeginsWith, where_true, faults_from, instr_faults, is_late, is_taken, has_its_format, reads_unwritten, writes_next, writes_wide}

module _ {A : Type 0} (faults : List A → A → List CodeNo) (xs : List A) (i : ℕ) (x : A) where
  -- an item without faults is passed over, and the first fault of another is the first of all
  pub passed_over : i < length xs → x ≡ get_or xs i x → faults (take i xs) x ≡ []
      → faults_from faults (take i xs) (drop i xs) ≡ faults_from faults (take (i + 1) xs) (drop (i + 1) xs)
  passed_over h is none = rw (drop_more xs i x h, take_more xs i x h, ← is, none) refl

  pub stopped_at : (fault : CodeNo) → i < length xs → x ≡ get_or xs i x → BeginsWith (faults (take i xs) x) fault
      → BeginsWith (faults_from faults (take i xs) (drop i xs)) fault
  stopped_at fault h is b = (b.0 ++ faults_from faults (take i xs ++ x ∷ []) (drop (i + 1) xs), rw (drop_more xs i x h, ← is, b.1) refl)

-- ---- six rows

abbrev rows : {A : Type 0} → Bool → A → Bool → A → Bool → A → Bool → A → Bool → A → Bool → A → List A
rows a u b v c w d x e y f z = where_true a u ++ where_true b v ++ where_true c w ++ where_true d x ++ where_true e y ++ where_true f z

module _ (arrival wide : ℕ) (formats : List FormatValue) (before : List RawInstrValue) (instr : RawInstrValue) where
  abbrev at : ℕ
  at = length before + 1

  abbrev late : Bool
  late = is_late before instr

  abbrev taken : Bool
  taken = is_taken before instr

  abbrev bad : Bool
  bad = not (has_its_format formats instr instr.what)

  abbrev unwritten : Bool
  unwritten = reads_unwritten before instr

  abbrev unordered : Bool
  unordered = not (writes_next before instr)

  abbrev too_wide : Bool
  too_wide = writes_wide arrival wide formats before instr

  abbrev faults : List CodeNo
  faults = instr_faults arrival wide formats before instr

  pub late_first : late ≡ true → BeginsWith faults (Late at)
  late_first h = (rows false (Late at) taken (TakeTwice at) bad (BadFormat at) unwritten (Unwritten at) unordered (Order at) too_wide (Wide at), rw h refl)

  pub taken_first : late ≡ false → taken ≡ true → BeginsWith faults (TakeTwice at)
  taken_first h i = (rows false (Late at) false (TakeTwice at) bad (BadFormat at) unwritten (Unwritten at) unordered (Order at) too_wide (Wide at), rw (h, i) refl)

  pub bad_first : late ≡ false → taken ≡ false → bad ≡ true → BeginsWith faults (BadFormat at)
  bad_first h i j = (rows false (Late at) false (TakeTwice at) false (BadFormat at) unwritten (Unwritten at) unordered (Order at) too_wide (Wide at), rw (h, i, j) refl)

  pub unwritten_first : late ≡ false → taken ≡ false → bad ≡ false → unwritten ≡ true → BeginsWith faults (Unwritten at)
  unwritten_first h i j k = (where_true unordered (Order at) ++ where_true too_wide (Wide at), rw (h, i, j, k) refl)

  pub order_first : late ≡ false → taken ≡ false → bad ≡ false → unwritten ≡ false → unordered ≡ true → BeginsWith faults (Order at)
  order_first h i j k l = (where_true too_wide (Wide at), rw (h, i, j, k, l) refl)

  pub wide_first : late ≡ false → taken ≡ false → bad ≡ false → unwritten ≡ false → unordered ≡ false → too_wide ≡ true → BeginsWith faults (Wide at)
  wide_first h i j k l m = ([], rw (h, i, j, k, l, m) refl)

  pub no_fault : late ≡ false → taken ≡ false → bad ≡ false → unwritten ≡ false → unordered ≡ false → too_wide ≡ false → faults ≡ []
  no_fault h i j k l m = rw (h, i, j, k, l, m) refl
