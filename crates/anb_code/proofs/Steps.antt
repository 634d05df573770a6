-- From what is known of the instructions before to what is known with one more.
use Rattle.std.proofs.Common.{◌≡◌, ◌<◌, ◌≤◌, ◌+◌, ℕ, zero, suc, nat_lt, nat_le, true, false, List, [], ◌∷◌, ◌++◌, length, map, replicate, take, get_or, slice_index, refl, sym, ap, ◌∙◌, arith, append_assoc, lit≤, inl, inr}
use Rattle.std.specs.List.{list_any, range_with_len, AllByRecursion}
use Rattle.std.specs.Str.{bytes_eq}
use Rattle.std.proofs.lemmas.Bool.{cases_lt, true≢false}
use Rattle.std.proofs.lemmas.Bool.Decides.{nat_tests}
use Rattle.std.proofs.lemmas.List.{append-nil, length-append, length-replicate, map_push, take_more}
use Rattle.std.proofs.lemmas.List.Elements.{All-append, All-from_recursion, recursion_from_All}
use Rattle.std.proofs.lemmas.List.FromFn.{length-range_with_len}
use Rattle.std.proofs.lemmas.Slice.Eq.{bytes_eq-Decides}
use Rattle.anb_base.specs.declared.TheConstants.{ARRIVAL, WIDE}
use Rattle.anb_format.specs.Formats.{FormatValue}
use Rattle.anb_code.specs.declared.instr.Instr.{Instr}
use Rattle.anb_code.specs.declared.raw.What.{What}
use Rattle.anb_code.specs.declared.raw.What.TheVariants.{Take, Fresh, Recv, Hash, Mac, Seal, Unseal, Wrap, Unwrap, Build, Parse, Equal, Send}
use Rattle.anb_code.specs.RawValue.{RawInstrValue}
use Rattle.anb_code.specs.Registers.{count_written, register_widths, widths_after, width_of, written_widths}
use Rattle.anb_code.specs.Spelling.{instr_of, spelled}
use Rattle.anb_code.specs.Checking.{Knows}
use Rattle.anb_code.specs.Table.{CountsAre, HasCounts, has_its_format, reads_unwritten, writes_next, writes_wide, written}
use Rattle.anb_code.proofs.Naming.{count_written-instr_of}
use Rattle.anb_code.proofs.Numbers.{any_unwritten, range_next}

-- ---- lists that grow at the end

pub written-push : (before : List RawInstrValue) (instr : RawInstrValue) → written (before ++ instr ∷ []) ≡ written before ++ instr.to
written-push [] instr = append-nil instr.to
written-push (x ∷ xs) instr = ap (λ rest. x.to ++ rest) (written-push xs instr) ∙ sym (append_assoc x.to (written xs) instr.to)

widths_after-push : (arrival : ℕ) (formats : List FormatValue) (widths : List ℕ) (before : List Instr) (instr : Instr)
    → widths_after arrival formats widths (before ++ instr ∷ []) ≡ widths_after arrival formats widths before ++ written_widths arrival formats (widths_after arrival formats widths before) instr
widths_after-push arrival formats widths [] instr = refl
widths_after-push arrival formats widths (x ∷ xs) instr = widths_after-push arrival formats (widths ++ written_widths arrival formats widths x) xs instr

pub register_widths-push : (arrival : ℕ) (formats : List FormatValue) (before : List Instr) (instr : Instr)
    → register_widths arrival formats (before ++ instr ∷ []) ≡ register_widths arrival formats before ++ written_widths arrival formats (register_widths arrival formats before) instr
register_widths-push arrival formats before instr = widths_after-push arrival formats [] before instr

all_same : (P : ℕ → Type 0) (n w : ℕ) → P w → AllByRecursion P (replicate n w)
all_same P zero w h = tt
all_same P (suc n) w h = (h, all_same P n w h)

none_wide : (wide n w : ℕ) → w ≤ wide → list_any (nat_lt wide) (replicate n w) ≡ false
none_wide wide zero w h = refl
none_wide wide (suc n) w h = rw (none_wide wide n w h) (grind (arith, nat_tests))

some_wide : (wide n w : ℕ) → 0 < n → (w ≤ wide → ⊥) → list_any (nat_lt wide) (replicate n w) ≡ true
some_wide wide zero w some h = absurd (omega arith)
some_wide wide (suc n) w some h = grind (arith, nat_tests)

-- ---- one more instruction

module _ (formats : List FormatValue) (before : List RawInstrValue) (widths : List ℕ) (known : Knows formats before widths) where
  pub length-known : length (written before) ≡ length widths
  length-known = ap length known.registers ∙ length-range_with_len 0 (length widths)

  module _ (instr : RawInstrValue) where
    -- the rows on registers, by how many there are
    pub unwritten_by : (n : ℕ) → n ≡ length widths → reads_unwritten before instr ≡ list_any (nat_le n) instr.args
    unwritten_by n many = any_unwritten (length widths) (written before) instr.args known.registers ∙ ap (λ k. list_any (nat_le k) instr.args) (sym many)

    pub next_by : (n : ℕ) → n ≡ length widths → writes_next before instr ≡ bytes_eq instr.to (range_with_len n (length instr.to))
    next_by n many = ap (λ k. bytes_eq instr.to (range_with_len k (length instr.to))) (length-known ∙ sym many)

    pub unwritten_is : reads_unwritten before instr ≡ list_any (nat_le (length widths)) instr.args
    unwritten_is = any_unwritten (length widths) (written before) instr.args known.registers

    pub next_is : writes_next before instr ≡ bytes_eq instr.to (range_with_len (length widths) (length instr.to))
    next_is = ap (λ n. bytes_eq instr.to (range_with_len n (length instr.to))) length-known

    abbrev width : ℕ
    width = width_of ARRIVAL formats widths (instr_of formats instr)

    wide_is : writes_wide ARRIVAL WIDE formats before instr ≡ list_any (nat_lt WIDE) (replicate (count_written formats (instr_of formats instr)) width)
    wide_is = ap (λ ws. list_any (nat_lt WIDE) (written_widths ARRIVAL formats ws (instr_of formats instr))) (sym known.widths_are)

    pub narrow_is : width ≤ WIDE → writes_wide ARRIVAL WIDE formats before instr ≡ false
    narrow_is h = wide_is ∙ none_wide WIDE (count_written formats (instr_of formats instr)) width h

    pub knows_more : HasCounts instr → has_its_format formats instr instr.what ≡ true → bytes_eq instr.to (range_with_len (length widths) (length instr.to)) ≡ true → width ≤ WIDE
        → Knows formats (before ++ instr ∷ []) (widths ++ replicate (length instr.to) width)
    knows_more counts has next narrow =
        let count = count_written-instr_of formats instr counts has in
        let to_is : instr.to ≡ range_with_len (length widths) (length instr.to) = (bytes_eq-Decides instr.to (range_with_len (length widths) (length instr.to))).0 next in
        let more : range_with_len 0 (length widths) ++ range_with_len (length widths) (length instr.to) ≡ range_with_len 0 (length widths + length instr.to) = range_next (length widths) (length instr.to) in
        let long : length (widths ++ replicate (length instr.to) width) ≡ length widths + length instr.to = simp (length-append, length-replicate) in
        record {
          registers = written-push before instr ∙ ap (λ registers. registers ++ instr.to) known.registers ∙ ap (λ to. range_with_len 0 (length widths) ++ to) to_is
              ∙ more ∙ ap (range_with_len 0) (sym long);
          widths_are = sym (ap (register_widths ARRIVAL formats) (map_push (instr_of formats) before instr)
              ∙ register_widths-push ARRIVAL formats (map (instr_of formats) before) (instr_of formats instr)
              ∙ ap (λ ws. ws ++ written_widths ARRIVAL formats ws (instr_of formats instr)) (sym known.widths_are)
              ∙ ap (λ n. widths ++ replicate n width) count);
          narrow = All-append (λ w. w ≤ WIDE) widths (replicate (length instr.to) width) known.narrow (All-from_recursion (λ w. w ≤ WIDE) (replicate (length instr.to) width) (all_same (λ w. w ≤ WIDE) (length instr.to) width narrow));
        }

  -- a register that is at hand is narrow
  at_hand : (ws : List ℕ) → AllByRecursion (λ w. w ≤ WIDE) ws → (r : ℕ) → slice_index ws r ≤ WIDE
  at_hand [] all r = omega arith
  at_hand (w ∷ ws) all zero = all.0
  at_hand (w ∷ ws) all (suc r) = at_hand ws all.1 r

  -- an instruction that writes nothing has no width above that of an arrival or of a register
  writes_none : (to : List ℕ) (name args : List ℕ) (what : What) → CountsAre what (length to) (length args) → length to ≡ 0 → width_of ARRIVAL formats widths (spelled formats name args what) ≤ WIDE
  writes_none to name args Take counts none = lit≤ tt
  writes_none to name args Fresh counts none = lit≤ tt
  writes_none to name args Recv counts none = lit≤ tt
  writes_none to name args Hash counts none = lit≤ tt
  writes_none to name args Mac counts none = lit≤ tt
  writes_none to name args Seal counts none = absurd (omega (arith, counts.0))
  writes_none to name args Unseal counts none = absurd (omega (arith, counts.0))
  writes_none to name args Wrap counts none = absurd (omega (arith, counts.0))
  writes_none to name args Unwrap counts none = absurd (omega (arith, counts.0))
  writes_none to name args Build counts none = absurd (omega (arith, counts))
  writes_none to name args Parse counts none = at_hand widths (recursion_from_All (λ w. w ≤ WIDE) widths known.narrow) (slice_index args 0)
  writes_none to name args Equal counts none = lit≤ tt
  writes_none to name args Send counts none = lit≤ tt

  pub too_wide_is : (instr : RawInstrValue) → HasCounts instr → has_its_format formats instr instr.what ≡ true → (width_of ARRIVAL formats widths (instr_of formats instr) ≤ WIDE → ⊥)
      → writes_wide ARRIVAL WIDE formats before instr ≡ true
  too_wide_is instr counts has wide = elim (cases_lt 0 (length instr.to)) [
    | inl some ↦
        let count = count_written-instr_of formats instr counts has in
        wide_is instr ∙ some_wide WIDE (count_written formats (instr_of formats instr)) (width_of ARRIVAL formats widths (instr_of formats instr)) (omega (arith, count)) wide
    | inr none ↦ absurd (wide (writes_none instr.to instr.name instr.args instr.what counts (omega arith)))
  ]

  -- and what is not too wide is narrow
  pub width_within : (instr : RawInstrValue) → HasCounts instr → has_its_format formats instr instr.what ≡ true → writes_wide ARRIVAL WIDE formats before instr ≡ false
      → width_of ARRIVAL formats widths (instr_of formats instr) ≤ WIDE
  width_within instr counts has fine = elim (cases_lt WIDE (width_of ARRIVAL formats widths (instr_of formats instr))) [
    | inr narrow ↦ narrow
    | inl wide ↦ absurd (true≢false (sym (too_wide_is instr counts has (λ h. omega (arith, h, wide))) ∙ fine))
  ]

pub nothing_known : (formats : List FormatValue) → Knows formats [] []
nothing_known formats = record { registers = refl; widths_are = refl; narrow = λ k d h. absurd (omega (arith, h)) }

-- some instructions write no more registers than all
pub written_within : (code : List RawInstrValue) (i : ℕ) (instr : RawInstrValue) → i < length code → instr ≡ get_or code i instr → length (written (take i code)) + length instr.to ≤ length (written code)
written_within [] i instr h is = absurd (omega arith)
written_within (x ∷ xs) zero instr h is = rw is (simp length-append (omega arith))
written_within (x ∷ xs) (suc i) instr h is =
    let rest = written_within xs i instr (omega arith) is in
    simp length-append (omega (arith, rest))

pub written_more : (code : List RawInstrValue) (i : ℕ) (instr : RawInstrValue) → i < length code → instr ≡ get_or code i instr → length (written (take (i + 1) code)) ≡ length (written (take i code)) + length instr.to
written_more code i instr h is = rw (take_more code i instr h, ← is) (ap length (written-push (take i code) instr) ∙ length-append (written (take i code)) instr.to)
