-- A code without faults spells a verified one.
use Rattle.std.proofs.Common.{◌≡◌, ◌≢◌, ◌<◌, ◌≤◌, ◌+◌, ◌^◌, ◌&&◌, ◌||◌, ◌==◌, not, ℕ, nat_lt, Bool, true, false, List, [], ◌∷◌, ◌++◌, length, map, replicate, refl, sym, ap, ◌∙◌, arith, All}
use Rattle.std.specs.List.{list_any, find, AllByRecursion}
use Rattle.std.specs.Str.{bytes_eq}
use Rattle.std.proofs.lemmas.Bool.{not-false, eqb-false, ltb-false, or_parts, true≢false}
use Rattle.std.proofs.lemmas.List.{length-append, length-map, length-replicate, map_push, append-nil, append_assoc}
use Rattle.std.proofs.lemmas.List.Elements.{All-from_recursion, recursion_from_All}
use Rattle.std.proofs.lemmas.List.Sums.{sum_by-cons}
use Rattle.std.proofs.lemmas.Slice.Eq.{bytes_eq-Decides}
use Rattle.anb_lemmas.proofs.Items.{one_item, two_items, three_items}
use Rattle.anb_lemmas.proofs.Lists.{both_empty}
use Rattle.anb_base.specs.declared.TheConstants.{ARRIVAL, WIDE}
use Rattle.anb_format.specs.Formats.{FormatValue, IsSound, field_count}
use Rattle.anb_code.specs.declared.instr.Instr.{Instr}
use Rattle.anb_code.specs.declared.raw.What.{What}
use Rattle.anb_code.specs.declared.raw.What.TheVariants.{Take, Fresh, Recv, Hash, Mac, Seal, Unseal, Wrap, Unwrap, Build, Parse, Equal, Send}
use Rattle.anb_code.specs.declared.refusal.CodeNo.TheVariants.{Many, Twice, Shape, Late, TakeTwice, BadFormat, Unwritten, Order, Wide}
use Rattle.anb_code.specs.Checking.{Knows}
use Rattle.anb_code.specs.RawValue.{RawInstrValue, RawValue}
use Rattle.anb_code.specs.Registers.{count_written, operands, register_widths, widths_after, width_of, written_widths}
use Rattle.anb_code.specs.Spelling.{code_of, instr_of, is_named, spelled}
use Rattle.anb_code.specs.Table.{BeginsWith, CountsAre, HasCounts, where_true, is_take, faults_from, format_faults, instr_faults, has_its_format, is_late, is_taken, reads_unwritten, writes_next, writes_wide, shape_faults, written}
use Rattle.anb_code.specs.Verified.{EachAfter, HasItsFormat, IsFormatAfter, IsInstrAfter, IsOtherTake, IsTakeAfter, IsVerifiedCode, count_registers}
use Rattle.anb_code.proofs.Naming.{has_fields_there, slice_get-place_of}
use Rattle.anb_code.proofs.Numbers.{all_written}
use Rattle.anb_code.proofs.Steps.{length-known, unwritten_is, next_is, knows_more, width_within, nothing_known}

-- ---- the first of some faults

pub begins : {A : Type 0} (xs ys : List A) (x : A) → BeginsWith xs x → BeginsWith (xs ++ ys) x
begins xs ys x b = (b.0 ++ ys, rw b.1 refl)

pub begins_after : {A : Type 0} (xs ys : List A) (x : A) → xs ≡ [] → BeginsWith ys x → BeginsWith (xs ++ ys) x
begins_after xs ys x none b = (b.0, rw none b.1)

pub holds_not : {A : Type 0} (b : Bool) (x : A) → where_true b x ≡ [] → b ≡ false
holds_not true x e = cc
holds_not false x e = refl

-- ---- formats

other_names : (name : List ℕ) (before : List FormatValue) → list_any (is_named name) before ≡ false → AllByRecursion (λ (earlier : FormatValue). earlier.name ≢ name) before
other_names name [] e = tt
other_names name (x ∷ xs) e =
    let parts = or_parts (is_named name x) (list_any (is_named name) xs) e in
    (λ same. true≢false (sym ((bytes_eq-Decides x.name name).1 same) ∙ parts.0), other_names name xs parts.1)

format_after : (before : List FormatValue) (format : FormatValue) → format_faults before format ≡ [] → length before ≤ 64 → IsSound format.pieces → IsFormatAfter before format
format_after before format none few sound =
    let many = length before == 64 || nat_lt 32 (field_count format.pieces) in
    let twice = list_any (is_named format.name) before in
    let parts = both_empty (where_true many (Many (length before)) ++ where_true twice (Twice (length before))) (map (Shape (length before)) (shape_faults format.pieces)) none in
    let first = both_empty (where_true many (Many (length before))) (where_true twice (Twice (length before))) parts.0 in
    let not_many : (length before == 64 || nat_lt 32 (field_count format.pieces)) ≡ false = holds_not many (Many (length before)) first.0 in
    let halves = or_parts (length before == 64) (nat_lt 32 (field_count format.pieces)) not_many in
    record {
      few = let other = eqb-false (length before) 64 halves.0 in omega (arith, other);
      fields = ltb-false _ _ halves.1;
      new = other_names format.name before (holds_not twice (Twice (length before)) first.1);
      sound = sound;
    }

pub formats_accepted : (before formats : List FormatValue) → length before ≤ 64 → AllByRecursion (λ (format : FormatValue). IsSound format.pieces) formats → faults_from format_faults before formats ≡ []
    → EachAfter IsFormatAfter before formats × (length before + length formats ≤ 64)
formats_accepted before [] few sound none = (tt, omega arith)
formats_accepted before (format ∷ formats) few sound none =
    let parts = both_empty (format_faults before format) (faults_from format_faults (before ++ format ∷ []) formats) none in
    let here = format_after before format parts.0 few sound.0 in
    let long : length (before ++ format ∷ []) ≡ length before + 1 = length-append before (format ∷ []) in
    let rest = formats_accepted (before ++ format ∷ []) formats (omega (arith, here.few, long)) sound.1 parts.1 in
    ((here, rest.0), omega (arith, rest.1, long))

-- ---- an instruction

-- what the table's rows say where there is no fault
record NoFaults (formats : List FormatValue) (before : List RawInstrValue) (raw : RawInstrValue) : Type 0 where
  in_time : is_late before raw ≡ false
  new : is_taken before raw ≡ false
  has : has_its_format formats raw raw.what ≡ true
  written_before : reads_unwritten before raw ≡ false
  next : writes_next before raw ≡ true
  narrow : writes_wide ARRIVAL WIDE formats before raw ≡ false

no_faults : (formats : List FormatValue) (before : List RawInstrValue) (raw : RawInstrValue) → instr_faults ARRIVAL WIDE formats before raw ≡ [] → NoFaults formats before raw
no_faults formats before raw none =
    let at = length before + 1 in
    let a = where_true (is_late before raw) (Late at) in
    let b = where_true (is_taken before raw) (TakeTwice at) in
    let d = where_true (not (has_its_format formats raw raw.what)) (BadFormat at) in
    let e = where_true (reads_unwritten before raw) (Unwritten at) in
    let f = where_true (not (writes_next before raw)) (Order at) in
    let g = where_true (writes_wide ARRIVAL WIDE formats before raw) (Wide at) in
    let five = both_empty (a ++ b ++ d ++ e ++ f) g none in
    let four = both_empty (a ++ b ++ d ++ e) f five.0 in
    let three = both_empty (a ++ b ++ d) e four.0 in
    let two = both_empty (a ++ b) d three.0 in
    let one = both_empty a b two.0 in
    record {
      in_time = holds_not (is_late before raw) (Late at) one.0;
      new = holds_not (is_taken before raw) (TakeTwice at) one.1;
      has = not-false _ (holds_not (not (has_its_format formats raw raw.what)) (BadFormat at) two.1);
      written_before = holds_not (reads_unwritten before raw) (Unwritten at) three.1;
      next = not-false _ (holds_not (not (writes_next before raw)) (Order at) four.1);
      narrow = holds_not (writes_wide ARRIVAL WIDE formats before raw) (Wide at) five.1;
    }

other_take : (formats : List FormatValue) (text name args : List ℕ) (what : What) → not (is_take what) ≡ false → (is_take what && bytes_eq name text) ≡ false → IsOtherTake text (spelled formats name args what)
other_take formats text name args Take is other = λ same. true≢false (sym ((bytes_eq-Decides name text).1 same) ∙ other)
other_take formats text name args Fresh is other = true≢false is
other_take formats text name args Recv is other = true≢false is
other_take formats text name args Hash is other = true≢false is
other_take formats text name args Mac is other = true≢false is
other_take formats text name args Seal is other = true≢false is
other_take formats text name args Unseal is other = true≢false is
other_take formats text name args Wrap is other = true≢false is
other_take formats text name args Unwrap is other = true≢false is
other_take formats text name args Build is other = true≢false is
other_take formats text name args Parse is other = true≢false is
other_take formats text name args Equal is other = true≢false is
other_take formats text name args Send is other = true≢false is

other_takes : (formats : List FormatValue) (text : List ℕ) (before : List RawInstrValue) → list_any (λ (earlier : RawInstrValue). not (is_take earlier.what)) before ≡ false
    → list_any (λ (earlier : RawInstrValue). is_take earlier.what && bytes_eq earlier.name text) before ≡ false → AllByRecursion (IsOtherTake text) (map (instr_of formats) before)
other_takes formats text [] a b = tt
other_takes formats text (x ∷ xs) a b =
    let p = or_parts (not (is_take x.what)) (list_any (λ (earlier : RawInstrValue). not (is_take earlier.what)) xs) a in
    let q = or_parts (is_take x.what && bytes_eq x.name text) (list_any (λ (earlier : RawInstrValue). is_take earlier.what && bytes_eq earlier.name text) xs) b in
    (other_take formats text x.name x.args x.what p.0 q.0, other_takes formats text xs p.1 q.1)

no_item : (xs : List ℕ) → length xs ≡ 0 → [] ≡ xs
no_item [] e = refl
no_item (x ∷ xs) e = absurd (omega (arith, e))

-- an instruction reads what it names
operands_are : (formats : List FormatValue) (name args : List ℕ) (to : ℕ) (what : What) → CountsAre what to (length args) → operands (spelled formats name args what) ≡ args
operands_are formats name args to Take counts = no_item args counts.1
operands_are formats name args to Fresh counts = no_item args counts.1
operands_are formats name args to Recv counts = no_item args counts.1
operands_are formats name args to Hash counts = one_item args counts.1
operands_are formats name args to Mac counts = two_items args counts.1
operands_are formats name args to Seal counts = two_items args counts.1
operands_are formats name args to Unseal counts = two_items args counts.1
operands_are formats name args to Wrap counts = three_items args counts.1
operands_are formats name args to Unwrap counts = three_items args counts.1
operands_are formats name args to Build counts = refl
operands_are formats name args to Parse counts = one_item args counts
operands_are formats name args to Equal counts = two_items args counts.1
operands_are formats name args to Send counts = one_item args counts.1

length-widths_after : (arrival : ℕ) (formats : List FormatValue) (widths : List ℕ) (instrs : List Instr) → length (widths_after arrival formats widths instrs) ≡ length widths + count_registers formats instrs
length-widths_after arrival formats widths [] = omega arith
length-widths_after arrival formats widths (x ∷ xs) =
    omega (
      arith,
      length-widths_after arrival formats (widths ++ written_widths arrival formats widths x) xs,
      length-append widths (written_widths arrival formats widths x),
      length-replicate (count_written formats x) (width_of arrival formats widths x),
      sum_by-cons (count_written formats) x xs,
    )

pub count_known : (formats : List FormatValue) (before : List RawInstrValue) (widths : List ℕ) → Knows formats before widths → count_registers formats (map (instr_of formats) before) ≡ length widths
count_known formats before widths known =
    omega (arith, ap length known.widths_are, length-widths_after ARRIVAL formats [] (map (instr_of formats) before))

-- ---- a code

module _ (formats : List FormatValue) where
  abbrev f : RawInstrValue → Instr
  f = instr_of formats

  take_after : (before : List RawInstrValue) (to name args : List ℕ) (what : What) → is_late before (record { to = to; what = what; name = name; args = args }) ≡ false
      → is_taken before (record { to = to; what = what; name = name; args = args }) ≡ false → IsTakeAfter (map f before) (spelled formats name args what)
  take_after before to name args Take in_time new = other_takes formats name before in_time new
  take_after before to name args Fresh in_time new = tt
  take_after before to name args Recv in_time new = tt
  take_after before to name args Hash in_time new = tt
  take_after before to name args Mac in_time new = tt
  take_after before to name args Seal in_time new = tt
  take_after before to name args Unseal in_time new = tt
  take_after before to name args Wrap in_time new = tt
  take_after before to name args Unwrap in_time new = tt
  take_after before to name args Build in_time new = tt
  take_after before to name args Parse in_time new = tt
  take_after before to name args Equal in_time new = tt
  take_after before to name args Send in_time new = tt

  its_format : (to name args : List ℕ) (what : What) → has_its_format formats (record { to = to; what = what; name = name; args = args }) what ≡ true → HasItsFormat formats (spelled formats name args what)
  its_format to name args Take has = tt
  its_format to name args Fresh has = tt
  its_format to name args Recv has = tt
  its_format to name args Hash has = tt
  its_format to name args Mac has = tt
  its_format to name args Seal has = tt
  its_format to name args Unseal has = tt
  its_format to name args Wrap has = tt
  its_format to name args Unwrap has = tt
  its_format to name args Build has =
      let there = has_fields_there (find (is_named name) formats) (length args) has in (there.0, slice_get-place_of formats name ∙ there.1, sym there.2)
  its_format to name args Parse has =
      let there = has_fields_there (find (is_named name) formats) (length to) has in (there.0, slice_get-place_of formats name ∙ there.1)
  its_format to name args Equal has = tt
  its_format to name args Send has = tt

  instr_after : (before : List RawInstrValue) (widths : List ℕ) (raw : RawInstrValue) → Knows formats before widths → HasCounts raw → NoFaults formats before raw → IsInstrAfter formats (map f before) (f raw)
  instr_after before widths raw known counts fine =
      let n = length widths in
      let all : AllByRecursion (λ r. r < n) raw.args = all_written n raw.args (sym (unwritten_is formats before widths known raw) ∙ fine.written_before) in
      let written_all : All (λ r. r < n) (operands (f raw)) = rw (operands_are formats raw.name raw.args (length raw.to) raw.what counts) (All-from_recursion (λ r. r < n) raw.args all) in
      record {
        take = take_after before raw.to raw.name raw.args raw.what fine.in_time fine.new;
        format = its_format raw.to raw.name raw.args raw.what fine.has;
        written = rw (count_known formats before widths known) written_all;
      }

  knows_after : (before : List RawInstrValue) (widths : List ℕ) (raw : RawInstrValue) → Knows formats before widths → HasCounts raw → NoFaults formats before raw
      → Knows formats (before ++ raw ∷ []) (widths ++ replicate (length raw.to) (width_of ARRIVAL formats widths (f raw)))
  knows_after before widths raw known counts fine =
      let narrow : width_of ARRIVAL formats widths (f raw) ≤ WIDE = width_within formats before widths known raw counts fine.has fine.narrow in
      knows_more formats before widths known raw counts fine.has (sym (next_is formats before widths known raw) ∙ fine.next) narrow

  code_after : (before code : List RawInstrValue) (widths : List ℕ) → Knows formats before widths → AllByRecursion HasCounts code → faults_from (instr_faults ARRIVAL WIDE formats) before code ≡ []
      → EachAfter (IsInstrAfter formats) (map f before) (map f code) × ((ws : List ℕ) × Knows formats (before ++ code) ws)
  code_after before [] widths known counts none = (tt, (widths, rw append-nil known))
  code_after before (raw ∷ code) widths known counts none =
      let parts = both_empty (instr_faults ARRIVAL WIDE formats before raw) (faults_from (instr_faults ARRIVAL WIDE formats) (before ++ raw ∷ []) code) none in
      let fine = no_faults formats before raw parts.0 in
      let rest = code_after (before ++ raw ∷ []) code (widths ++ replicate (length raw.to) (width_of ARRIVAL formats widths (f raw))) (knows_after before widths raw known counts.0 fine) counts.1 parts.1 in
      let next : EachAfter (IsInstrAfter formats) (map f before ++ f raw ∷ []) (map f code) = rw (map_push f before raw) at rest.0 in
      let all : Knows formats (before ++ raw ∷ code) rest.1.0 = rw (append_assoc before (raw ∷ []) code) at rest.1.1 in
      ((instr_after before widths raw known counts.0 fine, next), (rest.1.0, all))

pub verified_code : (raw : RawValue) → faults_from format_faults [] raw.formats ≡ [] → faults_from (instr_faults ARRIVAL WIDE raw.formats) [] raw.code ≡ []
    → All (λ (format : FormatValue). IsSound format.pieces) raw.formats → All HasCounts raw.code → length raw.code + 1 < 2 ^ 32 → length (written raw.code) + 1 < 2 ^ 32
    → IsVerifiedCode ARRIVAL WIDE (code_of raw)
verified_code raw no_format_fault no_instr_fault sound counts few_instrs few_registers =
    let after = code_after raw.formats [] raw.code [] (nothing_known raw.formats) (recursion_from_All HasCounts raw.code counts) no_instr_fault in
    let known : Knows raw.formats raw.code after.1.0 = after.1.1 in
    let narrow : All (λ w. w ≤ WIDE) (register_widths ARRIVAL raw.formats (map (instr_of raw.formats) raw.code)) = rw (← known.widths_are) known.narrow in
    record {
      formats = (formats_accepted [] raw.formats (omega arith) (recursion_from_All (λ (format : FormatValue). IsSound format.pieces) raw.formats sound) no_format_fault).0;
      instrs = after.0;
      narrow = narrow;
      few_instrs = omega (arith, length-map raw.code (instr_of raw.formats), few_instrs);
      few_registers = omega (arith, count_known raw.formats raw.code after.1.0 known, length-known raw.formats raw.code after.1.0 known, few_registers);
    }

pub few_formats : (formats : List FormatValue) → faults_from format_faults [] formats ≡ [] → All (λ (format : FormatValue). IsSound format.pieces) formats → length formats ≤ 64
few_formats formats none sound =
    let few = (formats_accepted [] formats (omega arith) (recursion_from_All (λ (format : FormatValue). IsSound format.pieces) formats sound) none).1 in omega (arith, few)

pub fields_after : (before formats : List FormatValue) → EachAfter IsFormatAfter before formats → AllByRecursion (λ (format : FormatValue). field_count format.pieces ≤ 32) formats
fields_after before [] each = tt
fields_after before (f ∷ formats) each = (each.0.fields, fields_after (before ++ f ∷ []) formats each.1)
