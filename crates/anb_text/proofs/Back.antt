-- A code that is accepted spells itself again.
use Rattle.std.proofs.Common.{◌≡◌, ◌+◌, ℕ, true, List, [], ◌∷◌, ◌++◌, length, map, find, Some, inl, inr, refl, sym, ap, ◌∙◌, arith}
use Rattle.std.specs.Prelude.{not}
use Rattle.std.specs.List.{AllByRecursion, range_with_len}
use Rattle.std.specs.Option.{option_map_or}
use Rattle.std.proofs.lemmas.Bool.{cases_Bool, not-false}
use Rattle.std.proofs.lemmas.List.{length-append}
use Rattle.std.proofs.lemmas.Slice.Eq.{bytes_eq-Decides}
use Rattle.anb_base.specs.declared.TheConstants.{ARRIVAL, WIDE}
use Rattle.anb_format.specs.Formats.{FormatValue}
use Rattle.anb_code.specs.declared.raw.What.{What}
use Rattle.anb_code.specs.declared.raw.What.TheVariants.{Take, Fresh, Recv, Hash, Mac, Seal, Unseal, Wrap, Unwrap, Build, Parse, Equal, Send}
use Rattle.anb_code.specs.declared.refusal.CodeNo.TheVariants.{Late, TakeTwice, BadFormat, Unwritten, Order, Wide}
use Rattle.anb_code.specs.RawValue.{RawInstrValue, RawValue}
use Rattle.anb_code.specs.Registers as registers
use Rattle.anb_code.specs.Spelling.{code_of, instr_of, is_named, name_at, name_of, place_of, raw_instr, raw_instrs, raw_of, spelled, what_of}
use Rattle.anb_code.specs.Table.{CountsAre, IsAccepted, where_true, faults_from, format_faults, has_fields, has_its_format, instr_faults, is_late, is_taken, reads_unwritten, writes_next, writes_wide, written}
use Rattle.anb_code.proofs.Accepted.{holds_not}
use Rattle.anb_code.proofs.Naming.{count_written-instr_of, has_fields_there, slice_get-place_of}
use Rattle.anb_code.proofs.Steps.{written-push}
use Rattle.anb_text.specs.Lines.{IsInstr, IsNameFor}
use Rattle.anb_lemmas.proofs.Items.{no_items, one_item, two_items, three_items}
use Rattle.anb_lemmas.proofs.Lists.{both_empty}

-- ---- one instruction

what_again : (formats : List FormatValue) (name args : List ℕ) (what : What) → what_of (spelled formats name args what) ≡ what
what_again formats name args Take = refl
what_again formats name args Fresh = refl
what_again formats name args Recv = refl
what_again formats name args Hash = refl
what_again formats name args Mac = refl
what_again formats name args Seal = refl
what_again formats name args Unseal = refl
what_again formats name args Wrap = refl
what_again formats name args Unwrap = refl
what_again formats name args Build = refl
what_again formats name args Parse = refl
what_again formats name args Equal = refl
what_again formats name args Send = refl

named : (formats : List FormatValue) (name : List ℕ) (format : FormatValue) → find (is_named name) formats ≡ Some format → format.name ≡ name
named [] name format e = cc
named (x ∷ formats) name format e = elim (cases_Bool (is_named name x)) [
  | inl here ↦
      let found : Some x ≡ Some format = rw here at e in
      let same : x ≡ format = cc in
      ap (λ (f : FormatValue). f.name) (sym same) ∙ (bytes_eq-Decides x.name name).0 here
  | inr other ↦ named formats name format (rw other at e)
]

-- the format that an instruction names is there
name_there : (formats : List FormatValue) (name : List ℕ) (count : ℕ) → has_fields (find (is_named name) formats) count ≡ true → name_at formats (place_of formats name) ≡ name
name_there formats name count has =
    let there = has_fields_there (find (is_named name) formats) count has in
    ap (λ found. option_map_or (λ (format : FormatValue). format.name) found []) (slice_get-place_of formats name ∙ there.1) ∙ named formats name there.0 there.1

name_again : (formats : List FormatValue) (to name args : List ℕ) (what : What) → IsNameFor what name → has_its_format formats (record { to = to; what = what; name = name; args = args }) what ≡ true
    → name_of formats (spelled formats name args what) ≡ name
name_again formats to name args Take is has = refl
name_again formats to name args Build is has = name_there formats name (length args) has
name_again formats to name args Parse is has = name_there formats name (length to) has
name_again formats to name args Fresh is has = sym is
name_again formats to name args Recv is has = sym is
name_again formats to name args Hash is has = sym is
name_again formats to name args Mac is has = sym is
name_again formats to name args Seal is has = sym is
name_again formats to name args Unseal is has = sym is
name_again formats to name args Wrap is has = sym is
name_again formats to name args Unwrap is has = sym is
name_again formats to name args Equal is has = sym is
name_again formats to name args Send is has = sym is

args_again : (formats : List FormatValue) (name args : List ℕ) (to : ℕ) (what : What) → CountsAre what to (length args) → registers.operands (spelled formats name args what) ≡ args
args_again formats name args to Take counts = no_items args counts.1
args_again formats name args to Fresh counts = no_items args counts.1
args_again formats name args to Recv counts = no_items args counts.1
args_again formats name args to Hash counts = one_item args counts.1
args_again formats name args to Mac counts = two_items args counts.1
args_again formats name args to Seal counts = two_items args counts.1
args_again formats name args to Unseal counts = two_items args counts.1
args_again formats name args to Wrap counts = three_items args counts.1
args_again formats name args to Unwrap counts = three_items args counts.1
args_again formats name args to Build counts = refl
args_again formats name args to Parse counts = one_item args counts
args_again formats name args to Equal counts = two_items args counts.1
args_again formats name args to Send counts = one_item args counts.1

abbrev instr : List ℕ → What → List ℕ → List ℕ → RawInstrValue
instr to what name args = record { to = to; what = what; name = name; args = args }

-- it writes the next registers, and its format is there
record IsFine (formats : List FormatValue) (before : List RawInstrValue) (i : RawInstrValue) : Type 0 where
  has : has_its_format formats i i.what ≡ true
  next : i.to ≡ range_with_len (length (written before)) (length i.to)

fine : (formats : List FormatValue) (before : List RawInstrValue) (i : RawInstrValue) → instr_faults ARRIVAL WIDE formats before i ≡ [] → IsFine formats before i
fine formats before i none =
    let at = length before + 1 in
    let a = where_true (is_late before i) (Late at) in
    let b = where_true (is_taken before i) (TakeTwice at) in
    let d = where_true (not (has_its_format formats i i.what)) (BadFormat at) in
    let e = where_true (reads_unwritten before i) (Unwritten at) in
    let f = where_true (not (writes_next before i)) (Order at) in
    let g = where_true (writes_wide ARRIVAL WIDE formats before i) (Wide at) in
    let five = both_empty (a ++ b ++ d ++ e ++ f) g none in
    let four = both_empty (a ++ b ++ d ++ e) f five.0 in
    let three = both_empty (a ++ b ++ d) e four.0 in
    let two = both_empty (a ++ b) d three.0 in
    record {
      has = not-false _ (holds_not (not (has_its_format formats i i.what)) (BadFormat at) two.1);
      next = (bytes_eq-Decides i.to (range_with_len (length (written before)) (length i.to))).0 (not-false _ (holds_not (not (writes_next before i)) (Order at) four.1));
    }

instr_again : (formats : List FormatValue) (before : List RawInstrValue) (i : RawInstrValue) → IsInstr i → IsFine formats before i → raw_instr formats (length (written before)) (instr_of formats i) ≡ i
instr_again formats before i is ok =
    let n = length (written before) in
    let one = instr_of formats i in
    let to : range_with_len n (registers.count_written formats one) ≡ i.to = ap (range_with_len n) (count_written-instr_of formats i is.counts ok.has) ∙ sym ok.next in
    ap (λ to. instr to (what_of one) (name_of formats one) (registers.operands one)) to
    ∙ ap (λ what. instr i.to what (name_of formats one) (registers.operands one)) (what_again formats i.name i.args i.what)
    ∙ ap (λ name. instr i.to i.what name (registers.operands one)) (name_again formats i.to i.name i.args i.what is.name ok.has)
    ∙ ap (λ args. instr i.to i.what i.name args) (args_again formats i.name i.args (length i.to) i.what is.counts)

-- ---- all

code_again : (formats : List FormatValue) (before code : List RawInstrValue) → AllByRecursion IsInstr code → faults_from (instr_faults ARRIVAL WIDE formats) before code ≡ []
    → raw_instrs formats (length (written before)) (map (instr_of formats) code) ≡ code
code_again formats before [] is none = refl
code_again formats before (i ∷ code) is none =
    let parts = both_empty (instr_faults ARRIVAL WIDE formats before i) (faults_from (instr_faults ARRIVAL WIDE formats) (before ++ i ∷ []) code) none in
    let ok = fine formats before i parts.0 in
    let size : length (written before) + registers.count_written formats (instr_of formats i) ≡ length (written (before ++ i ∷ [])) =
    omega (arith, count_written-instr_of formats i is.0.counts ok.has, ap length (written-push before i), length-append (written before) i.to) in
    ap (λ x. x ∷ raw_instrs formats (length (written before) + registers.count_written formats (instr_of formats i)) (map (instr_of formats) code)) (instr_again formats before i is.0 ok)
    ∙ ap (λ n. i ∷ raw_instrs formats n (map (instr_of formats) code)) size
    ∙ ap (λ rest. i ∷ rest) (code_again formats (before ++ i ∷ []) code is.1 parts.1)

pub raw_again : (raw : RawValue) → AllByRecursion IsInstr raw.code → IsAccepted ARRIVAL WIDE raw → raw_of (code_of raw) ≡ raw
raw_again raw is accepted =
    let none = (both_empty (faults_from format_faults [] raw.formats) (faults_from (instr_faults ARRIVAL WIDE raw.formats) [] raw.code) accepted).1 in
    ap (λ code. record raw { code = code }) (code_again raw.formats [] raw.code is none)
