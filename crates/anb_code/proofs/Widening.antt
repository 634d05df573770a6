-- With four times the limits no width is more than four times as wide.
use Rattle.std.proofs.Common.{◌≡◌, ◌≤◌, ◌+◌, ◌*◌, not, ℕ, zero, suc, nat_lt, false, List, [], ◌∷◌, ◌++◌, length, map, replicate, slice_index, refl, arith}
use Rattle.std.specs.List.{AllZip, list_any}
use Rattle.std.proofs.lemmas.Bool.{or_parts, ltb-false, le-ltb}
use Rattle.anb_lemmas.proofs.Lists.{both_empty}
use Rattle.anb_format.specs.Formats.{FormatValue, pieces_at}
use Rattle.anb_format.specs.Widths.{pieces_width}
use Rattle.anb_format.specs.declared.pieces.FieldKind.TheVariants as kind
use Rattle.anb_format.specs.declared.pieces.Piece.{Piece}
use Rattle.anb_format.specs.declared.pieces.Piece.TheVariants.{Lit, Field}
use Rattle.anb_format.proofs.Narrow.{field_within}
use Rattle.anb_code.specs.declared.instr.Instr.{Instr}
use Rattle.anb_code.specs.declared.instr.Instr.TheVariants.{Seal, Unseal, Wrap, Unwrap, Build, Parse}
use Rattle.anb_code.specs.declared.refusal.CodeNo.TheVariants.{Late, TakeTwice, BadFormat, Unwritten, Order, Wide}
use Rattle.anb_code.specs.RawValue.{RawInstrValue, RawValue}
use Rattle.anb_code.specs.Registers.{count_written, register_widths, widths_after, width_of, written_widths}
use Rattle.anb_code.specs.Spelling.{instr_of}
use Rattle.anb_code.specs.Table.{IsAccepted, where_true, faults_from, format_faults, instr_faults, has_its_format, is_late, is_taken, reads_unwritten, writes_next, writes_wide}
use Rattle.anb_code.proofs.Accepted.{holds_not}

-- each width is at most four times the other list's
abbrev Within : List ℕ → List ℕ → Type 0
Within small big = AllZip (λ w v. v ≤ 4 * w) small big

within-append : (a b c d : List ℕ) → Within a b → Within c d → Within (a ++ c) (b ++ d)
within-append [] [] c d h k = k
within-append [] (y ∷ b) c d h k = absurd h
within-append (x ∷ a) [] c d h k = absurd h
within-append (x ∷ a) (y ∷ b) c d h k = (h.0, within-append a b c d h.1 k)

within-replicate : (n w v : ℕ) → v ≤ 4 * w → Within (replicate n w) (replicate n v)
within-replicate zero w v h = tt
within-replicate (suc n) w v h = (h, within-replicate n w v h)

within_at : (a b : List ℕ) (r : ℕ) → Within a b → slice_index b r ≤ 4 * slice_index a r
within_at [] [] r h = omega arith
within_at [] (y ∷ b) r h = absurd h
within_at (x ∷ a) [] r h = absurd h
within_at (x ∷ a) (y ∷ b) zero h = h.0
within_at (x ∷ a) (y ∷ b) (suc r) h = within_at a b r h.1

within-map : (a b : List ℕ) (registers : List ℕ) → Within a b → Within (map (slice_index a) registers) (map (slice_index b) registers)
within-map a b [] h = tt
within-map a b (r ∷ registers) h = (within_at a b r h, within-map a b registers h)

pieces_within : (pieces : List Piece) (small big : List ℕ) → Within small big → pieces_width pieces big ≤ 4 * pieces_width pieces small
pieces_within [] small big h = omega arith
pieces_within (Lit text ∷ pieces) small big h = let rest = pieces_within pieces small big h in omega arith
pieces_within (Field k ∷ pieces) [] [] h = omega arith
pieces_within (Field k ∷ pieces) [] (v ∷ big) h = absurd h
pieces_within (Field k ∷ pieces) (w ∷ small) [] h = absurd h
pieces_within (Field k ∷ pieces) (w ∷ small) (v ∷ big) h =
    let rest = pieces_within pieces small big h.1 in
    let here = field_within k w v h.0 in omega arith

module _ (arrival : ℕ) (formats : List FormatValue) where
  width_within : (small big : List ℕ) (instr : Instr) → Within small big → width_of (4 * arrival) formats big instr ≤ 4 * width_of arrival formats small instr
  width_within small big (Seal k b) h = let here = within_at small big b h in omega arith
  width_within small big (Unseal k c) h = within_at small big c h
  width_within small big (Wrap k d b) h = let here = within_at small big b h in omega arith
  width_within small big (Unwrap k d c) h = within_at small big c h
  width_within small big (Build f rs) h =
      let here = pieces_within (pieces_at formats f) (map (slice_index small) rs) (map (slice_index big) rs) (within-map small big rs h) in omega arith
  width_within small big (Parse f r) h = within_at small big r h
  width_within small big instr h = omega arith

  written_within : (small big : List ℕ) (instr : Instr) → Within small big → Within (written_widths arrival formats small instr) (written_widths (4 * arrival) formats big instr)
  written_within small big instr h =
      within-replicate (count_written formats instr) (width_of arrival formats small instr) (width_of (4 * arrival) formats big instr) (width_within small big instr h)

  after_within : (small big : List ℕ) (instrs : List Instr) → Within small big → Within (widths_after arrival formats small instrs) (widths_after (4 * arrival) formats big instrs)
  after_within small big [] h = h
  after_within small big (instr ∷ instrs) h =
      after_within (small ++ written_widths arrival formats small instr) (big ++ written_widths (4 * arrival) formats big instr) instrs
      (within-append small big (written_widths arrival formats small instr) (written_widths (4 * arrival) formats big instr) h (written_within small big instr h))

none_wider : (wide : ℕ) (small big : List ℕ) → Within small big → list_any (nat_lt wide) small ≡ false → list_any (nat_lt (4 * wide)) big ≡ false
none_wider wide [] [] h none = refl
none_wider wide [] (v ∷ big) h none = absurd h
none_wider wide (w ∷ small) [] h none = absurd h
none_wider wide (w ∷ small) (v ∷ big) h none =
    let parts = or_parts (nat_lt wide w) (list_any (nat_lt wide) small) none in
    let narrow : w ≤ wide = ltb-false wide w parts.0 in
    let here : nat_lt (4 * wide) v ≡ false = le-ltb (4 * wide) v (omega (arith, h.0)) in
    rw (here, none_wider wide small big h.1 parts.1) refl

module _ (arrival wide : ℕ) (formats : List FormatValue) where
  not_wider : (before : List RawInstrValue) (raw : RawInstrValue) → writes_wide arrival wide formats before raw ≡ false → writes_wide (4 * arrival) (4 * wide) formats before raw ≡ false
  not_wider before raw none =
      let instrs = map (instr_of formats) before in
      let widths = after_within arrival formats [] [] instrs tt in
      none_wider wide (written_widths arrival formats (register_widths arrival formats instrs) (instr_of formats raw))
      (written_widths (4 * arrival) formats (register_widths (4 * arrival) formats instrs) (instr_of formats raw))
      (written_within arrival formats (register_widths arrival formats instrs) (register_widths (4 * arrival) formats instrs) (instr_of formats raw) widths) none

  instr_accepted : (before : List RawInstrValue) (raw : RawInstrValue) → instr_faults arrival wide formats before raw ≡ [] → instr_faults (4 * arrival) (4 * wide) formats before raw ≡ []
  instr_accepted before raw none =
      let at = length before + 1 in
      let others = where_true (is_late before raw) (Late at) ++ where_true (is_taken before raw) (TakeTwice at) ++ where_true (not (has_its_format formats raw raw.what)) (BadFormat at)
      ++ where_true (reads_unwritten before raw) (Unwritten at) ++ where_true (not (writes_next before raw)) (Order at) in
      let parts = both_empty others (where_true (writes_wide arrival wide formats before raw) (Wide at)) none in
      let narrow = not_wider before raw (holds_not (writes_wide arrival wide formats before raw) (Wide at) parts.1) in
      rw (narrow, parts.0) refl

  code_accepted : (before code : List RawInstrValue) → faults_from (instr_faults arrival wide formats) before code ≡ [] → faults_from (instr_faults (4 * arrival) (4 * wide) formats) before code ≡ []
  code_accepted before [] none = refl
  code_accepted before (raw ∷ code) none =
      let parts = both_empty (instr_faults arrival wide formats before raw) (faults_from (instr_faults arrival wide formats) (before ++ raw ∷ []) code) none in
      rw (instr_accepted before raw parts.0, code_accepted (before ++ raw ∷ []) code parts.1) refl

pub wider_accepts : (arrival wide : ℕ) (raw : RawValue) → IsAccepted arrival wide raw → IsAccepted (4 * arrival) (4 * wide) raw
wider_accepts arrival wide raw none =
    let parts = both_empty (faults_from format_faults [] raw.formats) (faults_from (instr_faults arrival wide raw.formats) [] raw.code) none in
    rw (parts.0, code_accepted arrival wide raw.formats [] raw.code parts.1) refl
