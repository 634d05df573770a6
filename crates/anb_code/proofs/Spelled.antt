-- Each verified code is spelled by a raw code without faults.
use Rattle.std.proofs.Common.{◌≡◌, ◌≢◌, ◌<◌, ◌≤◌, ◌+◌, ◌&&◌, not, ℕ, zero, suc, nat_lt, nat_le, true, false, List, [], ◌∷◌, ◌++◌, length, map, slice_get, Some, refl, sym, ap, subst, ◌∙◌, arith, add-zero, zero-add}
use Rattle.std.specs.List.{list_any, find, range_with_len, AllByRecursion}
use Rattle.std.specs.Option.{option_map_or}
use Rattle.std.specs.Str.{bytes_eq}
use Rattle.std.proofs.lemmas.Bool.{le-ltb, lt-leb, ne_eqb, eq-eqb, not_from_true}
use Rattle.std.proofs.lemmas.List.{length-append}
use Rattle.std.proofs.lemmas.List.Elements.{All-from_recursion, recursion_from_All}
use Rattle.std.proofs.lemmas.List.FromFn.{length-range_with_len}
use Rattle.std.proofs.lemmas.List.Sums.{sum_by_push, sum_by-cons}
use Rattle.std.proofs.lemmas.Slice.Eq.{bytes_eq-Decides}
use Rattle.anb_lemmas.proofs.Items.{bytes_differ}
use Rattle.anb_lemmas.proofs.Each.{each_in_parts, each_and_last}
use Rattle.anb_format.specs.Formats.{FormatValue, field_count, pieces_at}
use Rattle.anb_code.specs.declared.instr.Instr.{Instr}
use Rattle.anb_code.specs.declared.instr.Instr.TheVariants.{Take, Fresh, Recv, Hash, Mac, Seal, Unseal, Wrap, Unwrap, Build, Parse, Equal, Send}
use Rattle.anb_code.specs.CodeValue.{CodeValue}
use Rattle.anb_code.specs.RawValue.{RawInstrValue}
use Rattle.anb_code.specs.Laws.{Spells}
use Rattle.anb_code.specs.Registers.{count_written, operands, register_widths, widths_after, written_widths}
use Rattle.anb_code.specs.Spelling.{instr_of, is_named, name_at, place_of, raw_instr, raw_instrs, raw_of, what_of}
use Rattle.anb_code.specs.Table.{HasCounts, is_take, faults_from, format_faults, instr_faults, has_its_format, is_late, is_taken, reads_unwritten, writes_next, writes_wide, written}
use Rattle.anb_code.specs.Verified.{EachAfter, HasItsFormat, IsFormatAfter, IsInstrAfter, IsOtherTake, IsTakeAfter, IsVerifiedCode, count_registers}
use Rattle.anb_code.proofs.Numbers.{any_unwritten, range_more}
use Rattle.anb_code.proofs.Rows.{no_fault}
use Rattle.anb_code.proofs.Shapes.{format_fine, shape_none}
use Rattle.anb_code.proofs.Steps.{register_widths-push}

-- ---- formats

not_twice : (name : List ℕ) (before : List FormatValue) → AllByRecursion (λ (earlier : FormatValue). earlier.name ≢ name) before → list_any (is_named name) before ≡ false
not_twice name [] all = refl
not_twice name (x ∷ xs) all = rw (bytes_differ x.name name all.0, not_twice name xs all.1) refl

format_accepted : (before : List FormatValue) (format : FormatValue) → IsFormatAfter before format → format_faults before format ≡ []
format_accepted before format is =
    let count = ne_eqb (length before) 64 (λ e. omega (arith, e, is.few)) in
    let fields = le-ltb 32 (field_count format.pieces) is.fields in
    format_fine before format (rw (count, fields) refl) (not_twice format.name before is.new) (shape_none format.pieces is.sound)

formats_accepted : (before formats : List FormatValue) → EachAfter IsFormatAfter before formats → faults_from format_faults before formats ≡ []
formats_accepted before [] each = refl
formats_accepted before (format ∷ formats) each = rw (format_accepted before format each.0, formats_accepted (before ++ format ∷ []) formats each.1) refl

few_formats : (before formats : List FormatValue) → EachAfter IsFormatAfter before formats → length before ≤ 64 → length before + length formats ≤ 64
few_formats before [] each few = omega arith
few_formats before (format ∷ formats) each few =
    let long = length-append before (format ∷ []) in
    let here = each.0.few in
    let rest = few_formats (before ++ format ∷ []) formats each.1 (omega (arith, long, here)) in omega (arith, rest, long)

-- a format's name differs from those before it
new_at : (before formats : List FormatValue) (f : ℕ) (format : FormatValue) → EachAfter IsFormatAfter before formats → slice_get formats f ≡ Some format
    → AllByRecursion (λ (earlier : FormatValue). earlier.name ≢ format.name) before
new_at before [] f format each e = cc
new_at before (x ∷ xs) zero format each e =
    let same : x ≡ format = cc in subst (λ (y : FormatValue). AllByRecursion (λ (earlier : FormatValue). earlier.name ≢ y.name) before) same each.0.new
new_at before (x ∷ xs) (suc f) format each e =
    (each_in_parts (λ (earlier : FormatValue). earlier.name ≢ format.name) before (x ∷ []) (new_at (before ++ x ∷ []) xs f format each.1 e)).0

-- so it is found by its name, at its place
found_at : (before formats : List FormatValue) (f : ℕ) (format : FormatValue) → EachAfter IsFormatAfter before formats → slice_get formats f ≡ Some format
    → (find (is_named format.name) formats ≡ Some format) × (place_of formats format.name ≡ f)
found_at before [] f format each e = cc
found_at before (x ∷ xs) zero format each e =
    let same : x ≡ format = cc in
    let here : is_named format.name x ≡ true = (bytes_eq-Decides x.name format.name).1 (ap (λ (y : FormatValue). y.name) same) in
    (rw here (ap Some same), rw here refl)
found_at before (x ∷ xs) (suc f) format each e =
    let new = new_at (before ++ x ∷ []) xs f format each.1 e in
    let differs = (each_in_parts (λ (earlier : FormatValue). earlier.name ≢ format.name) before (x ∷ []) new).1.0 in
    let other : is_named format.name x ≡ false = bytes_differ x.name format.name differs in
    let rest = found_at (before ++ x ∷ []) xs f format each.1 e in
    (rw other rest.0, rw other (omega (arith, rest.1)))

-- ---- instructions

not_late : (formats : List FormatValue) (n : ℕ) (text : List ℕ) (before : List Instr) → AllByRecursion (IsOtherTake text) before → list_any (λ (earlier : RawInstrValue). not (is_take earlier.what)) (raw_instrs formats n before) ≡ false
not_late formats n text [] all = refl
not_late formats n text (Take other ∷ before) all = not_late formats (n + 1) text before all.1
not_late formats n text (_ ∷ before) all = absurd all.0

not_taken : (formats : List FormatValue) (n : ℕ) (text : List ℕ) (before : List Instr) → AllByRecursion (IsOtherTake text) before
    → list_any (λ (earlier : RawInstrValue). is_take earlier.what && bytes_eq earlier.name text) (raw_instrs formats n before) ≡ false
not_taken formats n text [] all = refl
not_taken formats n text (Take other ∷ before) all = rw (bytes_differ other text all.0, not_taken formats (n + 1) text before all.1) refl
not_taken formats n text (_ ∷ before) all = absurd all.0

none_above : (wide : ℕ) (widths : List ℕ) → AllByRecursion (λ w. w ≤ wide) widths → list_any (nat_lt wide) widths ≡ false
none_above wide [] all = refl
none_above wide (w ∷ widths) all = rw (le-ltb wide w all.0, none_above wide widths all.1) refl

none_unwritten : (n : ℕ) (registers : List ℕ) → AllByRecursion (λ r. r < n) registers → list_any (nat_le n) registers ≡ false
none_unwritten n [] all = refl
none_unwritten n (r ∷ registers) all = rw (lt-leb n r all.0, none_unwritten n registers all.1) refl

module _ (formats : List FormatValue) (each_format : EachAfter IsFormatAfter [] formats) where
  abbrev count : List Instr → ℕ
  count instrs = count_registers formats instrs

  named : (f : ℕ) (format : FormatValue) → slice_get formats f ≡ Some format → name_at formats f ≡ format.name
  named f format e = ap (λ o. option_map_or (λ (x : FormatValue). x.name) o []) e

  fields : (f : ℕ) (format : FormatValue) → slice_get formats f ≡ Some format → field_count (pieces_at formats f) ≡ field_count format.pieces
  fields f format e = ap (λ o. field_count (option_map_or (λ (x : FormatValue). x.pieces) o [])) e

  placed : (f : ℕ) (format : FormatValue) → slice_get formats f ≡ Some format → place_of formats (name_at formats f) ≡ f
  placed f format e = ap (place_of formats) (named f format e) ∙ (found_at [] formats f format each_format e).1

  back : (n : ℕ) (i : Instr) → HasItsFormat formats i → instr_of formats (raw_instr formats n i) ≡ i
  back n (Build f rs) has = ap (λ place. Build place rs) (placed f has.0 has.1)
  back n (Parse f r) has = ap (λ place. Parse place r) (placed f has.0 has.1)
  back n i has = refl

  counts : (n : ℕ) (i : Instr) → HasCounts (raw_instr formats n i)
  counts n (Take text) = (length-range_with_len n 1, refl)
  counts n Fresh = (length-range_with_len n 1, refl)
  counts n Recv = (length-range_with_len n 1, refl)
  counts n (Hash r) = (length-range_with_len n 1, refl)
  counts n (Mac k b) = (length-range_with_len n 1, refl)
  counts n (Seal k b) = (length-range_with_len n 1, refl)
  counts n (Unseal k c) = (length-range_with_len n 1, refl)
  counts n (Wrap k d b) = (length-range_with_len n 1, refl)
  counts n (Unwrap k d c) = (length-range_with_len n 1, refl)
  counts n (Build f rs) = length-range_with_len n 1
  counts n (Parse f r) = refl
  counts n (Equal a b) = (refl, refl)
  counts n (Send r) = (refl, refl)

  all_counts : (n : ℕ) (instrs : List Instr) → AllByRecursion HasCounts (raw_instrs formats n instrs)
  all_counts n [] = tt
  all_counts n (i ∷ instrs) = (counts n i, all_counts (n + count_written formats i) instrs)

  length-raw : (n : ℕ) (instrs : List Instr) → length (raw_instrs formats n instrs) ≡ length instrs
  length-raw n [] = refl
  length-raw n (i ∷ instrs) = ap suc (length-raw (n + count_written formats i) instrs)

  written_raw : (n : ℕ) (instrs : List Instr) → written (raw_instrs formats n instrs) ≡ range_with_len n (count instrs)
  written_raw n [] = refl
  written_raw n (i ∷ instrs) =
      let more = count_written formats i in
      ap (λ rest. range_with_len n more ++ rest) (written_raw (n + more) instrs) ∙ range_more more n (count instrs) ∙ ap (range_with_len n) (sym (sum_by-cons (count_written formats) i instrs))

  map_raw : (n : ℕ) (instrs : List Instr) → AllByRecursion (HasItsFormat formats) instrs → map (instr_of formats) (raw_instrs formats n instrs) ≡ instrs
  map_raw n [] has = refl
  map_raw n (i ∷ instrs) has = rw (back n i has.0, map_raw (n + count_written formats i) instrs has.1) refl

  raw_push : (n : ℕ) (before : List Instr) (i : Instr) → raw_instrs formats n (before ++ i ∷ []) ≡ raw_instrs formats n before ++ raw_instr formats (n + count before) i ∷ []
  raw_push n [] i = ap (λ m. raw_instr formats m i ∷ []) (sym (add-zero n))
  raw_push n (x ∷ before) i =
      let place : n + count_written formats x + count before ≡ n + count (x ∷ before) = omega (arith, sum_by-cons (count_written formats) x before) in
      ap (λ rest. raw_instr formats n x ∷ rest) (raw_push (n + count_written formats x) before i
      ∙ ap (λ m. raw_instrs formats (n + count_written formats x) before ++ raw_instr formats m i ∷ []) place)

  in_time : (n : ℕ) (before : List Instr) (i : Instr) → IsTakeAfter before i → is_late (raw_instrs formats 0 before) (raw_instr formats n i) ≡ false
  in_time n before (Take text) take = not_late formats 0 text before take
  in_time n before i take = refl

  new_text : (n : ℕ) (before : List Instr) (i : Instr) → IsTakeAfter before i → is_taken (raw_instrs formats 0 before) (raw_instr formats n i) ≡ false
  new_text n before (Take text) take = not_taken formats 0 text before take
  new_text n before i take = refl

  its_format : (n : ℕ) (i : Instr) → HasItsFormat formats i → has_its_format formats (raw_instr formats n i) (what_of i) ≡ true
  its_format n (Build f rs) has =
      rw (named f has.0 has.1, (found_at [] formats f has.0 each_format has.1).0) (eq-eqb (field_count has.0.pieces) (length rs) (sym has.2))
  its_format n (Parse f r) has =
      rw (named f has.0 has.1, (found_at [] formats f has.0 each_format has.1).0)
      (eq-eqb (field_count has.0.pieces) (length (range_with_len n (field_count (pieces_at formats f)))) (sym (length-range_with_len n (field_count (pieces_at formats f)) ∙ fields f has.0 has.1)))
  its_format n i has = refl

  module _ (arrival wide : ℕ) where
    abbrev widths : List Instr → List ℕ
    widths before = register_widths arrival formats before

    -- the widths so far are among those of all
    narrow_before : (ws : List ℕ) (instrs : List Instr) → AllByRecursion (λ w. w ≤ wide) (widths_after arrival formats ws instrs) → AllByRecursion (λ w. w ≤ wide) ws
    narrow_before ws [] all = all
    narrow_before ws (i ∷ instrs) all =
        (each_in_parts (λ w. w ≤ wide) ws (written_widths arrival formats ws i) (narrow_before (ws ++ written_widths arrival formats ws i) instrs all)).0

    narrow_here : (ws : List ℕ) (i : Instr) (instrs : List Instr) → AllByRecursion (λ w. w ≤ wide) (widths_after arrival formats ws (i ∷ instrs)) → list_any (nat_lt wide) (written_widths arrival formats ws i) ≡ false
    narrow_here ws i instrs all =
        none_above wide (written_widths arrival formats ws i)
        (each_in_parts (λ w. w ≤ wide) ws (written_widths arrival formats ws i) (narrow_before (ws ++ written_widths arrival formats ws i) instrs all)).1

    instr_accepted : (before : List Instr) (i : Instr) (instrs : List Instr) → IsInstrAfter formats before i → AllByRecursion (HasItsFormat formats) before
        → AllByRecursion (λ w. w ≤ wide) (widths_after arrival formats (widths before) (i ∷ instrs))
        → instr_faults arrival wide formats (raw_instrs formats 0 before) (raw_instr formats (count before) i) ≡ []
    instr_accepted before i instrs is has narrow =
        let n = count before in
        let raws = raw_instrs formats 0 before in
        let raw = raw_instr formats n i in
        let so_far : written raws ≡ range_with_len 0 n = written_raw 0 before in
        let many : length (written raws) ≡ n = ap length so_far ∙ length-range_with_len 0 n in
        let reads : reads_unwritten raws raw ≡ false =
        any_unwritten n (written raws) (operands i) so_far ∙ none_unwritten n (operands i) (recursion_from_All (λ r. r < n) (operands i) is.written) in
        let to = range_with_len n (count_written formats i) in
        let next_is : range_with_len (length (written raws)) (length to) ≡ to = rw (many, length-range_with_len n (count_written formats i)) refl in
        let next : writes_next raws raw ≡ true = (bytes_eq-Decides to (range_with_len (length (written raws)) (length to))).1 (sym next_is) in
        let same : map (instr_of formats) raws ≡ before = map_raw 0 before has in
        let here : instr_of formats raw ≡ i = back n i is.format in
        let fits : writes_wide arrival wide formats raws raw ≡ false = rw (same, here) (narrow_here (widths before) i instrs narrow) in
        no_fault arrival wide formats raws raw (in_time n before i is.take) (new_text n before i is.take) (not_from_true _ (its_format n i is.format)) reads (not_from_true _ next) fits

    instrs_accepted : (before instrs : List Instr) → EachAfter (IsInstrAfter formats) before instrs → AllByRecursion (HasItsFormat formats) before
        → AllByRecursion (λ w. w ≤ wide) (widths_after arrival formats (widths before) instrs)
        → faults_from (instr_faults arrival wide formats) (raw_instrs formats 0 before) (raw_instrs formats (count before) instrs) ≡ []
    instrs_accepted before [] each has narrow = refl
    instrs_accepted before (i ∷ instrs) each has narrow =
        let here = instr_accepted before i instrs each.0 has narrow in
        let more : raw_instrs formats 0 (before ++ i ∷ []) ≡ raw_instrs formats 0 before ++ raw_instr formats (count before) i ∷ [] =
        raw_push 0 before i ∙ ap (λ n. raw_instrs formats 0 before ++ raw_instr formats n i ∷ []) (zero-add (count before)) in
        let counted : count (before ++ i ∷ []) ≡ count before + count_written formats i = sum_by_push (count_written formats) before i in
        let wider : AllByRecursion (λ w. w ≤ wide) (widths_after arrival formats (widths (before ++ i ∷ [])) instrs) = rw (register_widths-push arrival formats before i) narrow in
        let next = instrs_accepted (before ++ i ∷ []) instrs each.1 (each_and_last (HasItsFormat formats) before i has each.0.format) wider in
        let rest = rw (more, counted) at next in
        rw (here, rest) refl

  each_has : (before instrs : List Instr) → EachAfter (IsInstrAfter formats) before instrs → AllByRecursion (HasItsFormat formats) instrs
  each_has before [] each = tt
  each_has before (i ∷ instrs) each = (each.0.format, each_has (before ++ i ∷ []) instrs each.1)

pub spelled_code : (arrival wide : ℕ) (code : CodeValue) → IsVerifiedCode arrival wide code → Spells arrival wide (raw_of code) code
spelled_code arrival wide code verified =
    let formats = code.formats in
    let instrs = code.instrs in
    let few = few_formats [] formats verified.formats (omega arith) in
    let no_format_fault = formats_accepted [] formats verified.formats in
    let narrow = recursion_from_All (λ w. w ≤ wide) (register_widths arrival formats instrs) verified.narrow in
    let no_instr_fault = instrs_accepted formats verified.formats arrival wide [] instrs verified.instrs tt narrow in
    let written_is = ap length (written_raw formats verified.formats 0 instrs) ∙ length-range_with_len 0 (count_registers formats instrs) in
    record {
      counts = All-from_recursion HasCounts (raw_instrs formats 0 instrs) (all_counts formats verified.formats 0 instrs);
      few_formats = omega (arith, few);
      few_instrs = omega (arith, length-raw formats verified.formats 0 instrs, verified.few_instrs);
      few_destinations = omega (arith, written_is, verified.few_registers);
      accepted = rw (no_format_fault, no_instr_fault) refl;
      same = ap (λ is. record code { instrs = is }) (map_raw formats verified.formats 0 instrs (each_has formats verified.formats [] instrs verified.instrs));
    }
