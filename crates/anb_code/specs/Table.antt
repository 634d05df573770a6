-- What is wrong with a code that wasn't verified: the rows of the table, in order.
use Rattle.std.specs.Prelude.{◌≡◌, ℕ, ◌+◌, nat_lt, ◌==◌, ◌&&◌, ◌||◌, not, Bool, true, false, List, [], ◌∷◌, ◌++◌, length, map, find, Option, Some, None, if◌then◌else◌}
use Rattle.std.specs.List.{list_any, flat_map, range_with_len}
use Rattle.std.specs.Str.{bytes_eq}
use Rattle.anb_format.specs.Formats.{FormatValue, field_count, head}
use Rattle.anb_format.specs.declared.pieces.FieldKind.TheVariants.{Rest}
use Rattle.anb_format.specs.declared.pieces.FormatNo.{FormatNo}
use Rattle.anb_format.specs.declared.pieces.FormatNo.TheVariants.{NoHead, RestNotLast}
use Rattle.anb_format.specs.declared.pieces.Piece.{Piece}
use Rattle.anb_format.specs.declared.pieces.Piece.TheVariants.{Field}
use Rattle.anb_code.specs.declared.raw.What.{What}
use Rattle.anb_code.specs.declared.raw.What.TheVariants.{Take, Fresh, Recv, Hash, Mac, Seal, Unseal, Wrap, Unwrap, Build, Parse, Equal, Send}
use Rattle.anb_code.specs.declared.refusal.CodeNo.{CodeNo}
use Rattle.anb_code.specs.declared.refusal.CodeNo.TheVariants.{Many, Twice, Shape, Late, TakeTwice, BadFormat, Unwritten, Order, Wide}
use Rattle.anb_code.specs.RawValue.{RawInstrValue, RawValue}
use Rattle.anb_code.specs.Registers.{register_widths, written_widths}
use Rattle.anb_code.specs.Spelling.{instr_of, is_named}

-- this refusal, where this holds
abbrev pub where_true : {A : Type 0} → Bool → A → List A
where_true holds refusal = if holds then refusal ∷ [] else []

-- ---- formats

abbrev pub is_rest : Piece → Bool
is_rest (Field Rest) = true
is_rest piece = false

abbrev pub is_empty : {A : Type 0} → List A → Bool
is_empty [] = true
is_empty (x ∷ xs) = false

-- each `rest` that a piece follows, by its place, where the first piece has this place
abbrev pub early_rests : ℕ → List Piece → List FormatNo
early_rests i [] = []
early_rests i (piece ∷ pieces) = where_true (is_rest piece && not (is_empty pieces)) (RestNotLast i) ++ early_rests (i + 1) pieces

abbrev pub shape_faults : List Piece → List FormatNo
shape_faults pieces = where_true (is_empty (head pieces)) NoHead ++ early_rests 0 pieces

-- of a format, with those before it; formats are numbered from 0
abbrev pub format_faults : List FormatValue → FormatValue → List CodeNo
format_faults before format = let f = length before in
    where_true (f == 64 || nat_lt 32 (field_count format.pieces)) (Many f)
    ++ where_true (list_any (is_named format.name) before) (Twice f)
    ++ map (Shape f) (shape_faults format.pieces)

-- ---- instructions

abbrev pub is_take : What → Bool
is_take Take = true
is_take what = false

-- the registers that some instructions write
abbrev pub written : List RawInstrValue → List ℕ
written code = flat_map (λ (instr : RawInstrValue). instr.to) code

-- whether a format is there, and has this many fields
abbrev pub has_fields : Option FormatValue → ℕ → Bool
has_fields None count = false
has_fields (Some format) count = field_count format.pieces == count

-- a build has one operand per field, and a parse one destination
abbrev pub has_its_format : List FormatValue → RawInstrValue → What → Bool
has_its_format formats instr Build = has_fields (find (is_named instr.name) formats) (length instr.args)
has_its_format formats instr Parse = has_fields (find (is_named instr.name) formats) (length instr.to)
has_its_format formats instr what = true

abbrev pub is_late : List RawInstrValue → RawInstrValue → Bool
is_late before instr = is_take instr.what && list_any (λ (earlier : RawInstrValue). not (is_take earlier.what)) before

abbrev pub is_taken : List RawInstrValue → RawInstrValue → Bool
is_taken before instr = is_take instr.what && list_any (λ (earlier : RawInstrValue). is_take earlier.what && bytes_eq earlier.name instr.name) before

abbrev pub reads_unwritten : List RawInstrValue → RawInstrValue → Bool
reads_unwritten before instr = list_any (λ r. not (list_any (λ register. register == r) (written before))) instr.args

abbrev pub writes_next : List RawInstrValue → RawInstrValue → Bool
writes_next before instr = bytes_eq instr.to (range_with_len (length (written before)) (length instr.to))

abbrev pub writes_wide : ℕ → ℕ → List FormatValue → List RawInstrValue → RawInstrValue → Bool
writes_wide arrival wide formats before instr =
    list_any (nat_lt wide) (written_widths arrival formats (register_widths arrival formats (map (instr_of formats) before)) (instr_of formats instr))

-- of an instruction, with those before it; instructions are numbered from 1
abbrev pub instr_faults : ℕ → ℕ → List FormatValue → List RawInstrValue → RawInstrValue → List CodeNo
instr_faults arrival wide formats before instr = let at = length before + 1 in
    where_true (is_late before instr) (Late at)
    ++ where_true (is_taken before instr) (TakeTwice at)
    ++ where_true (not (has_its_format formats instr instr.what)) (BadFormat at)
    ++ where_true (reads_unwritten before instr) (Unwritten at)
    ++ where_true (not (writes_next before instr)) (Order at)
    ++ where_true (writes_wide arrival wide formats before instr) (Wide at)

-- as many registers as the grammar of role files has for what the instruction does
abbrev pub CountsAre : What → ℕ → ℕ → Type 0
CountsAre Take to args = (to ≡ 1) × (args ≡ 0)
CountsAre Fresh to args = (to ≡ 1) × (args ≡ 0)
CountsAre Recv to args = (to ≡ 1) × (args ≡ 0)
CountsAre Hash to args = (to ≡ 1) × (args ≡ 1)
CountsAre Mac to args = (to ≡ 1) × (args ≡ 2)
CountsAre Seal to args = (to ≡ 1) × (args ≡ 2)
CountsAre Unseal to args = (to ≡ 1) × (args ≡ 2)
CountsAre Wrap to args = (to ≡ 1) × (args ≡ 3)
CountsAre Unwrap to args = (to ≡ 1) × (args ≡ 3)
CountsAre Build to args = to ≡ 1
CountsAre Parse to args = args ≡ 1
CountsAre Equal to args = (to ≡ 0) × (args ≡ 2)
CountsAre Send to args = (to ≡ 0) × (args ≡ 1)

abbrev pub HasCounts : RawInstrValue → Type 0
HasCounts instr = CountsAre instr.what (length instr.to) (length instr.args)

-- ---- all

-- those of each item, with the items before it
abbrev pub faults_from : {A : Type 0} → (List A → A → List CodeNo) → List A → List A → List CodeNo
faults_from faults before [] = []
faults_from faults before (x ∷ xs) = faults before x ++ faults_from faults (before ++ x ∷ []) xs

-- all faults of a code, the first of which decides: of its formats in order, then of its instructions
abbrev pub code_faults : ℕ → ℕ → RawValue → List CodeNo
code_faults arrival wide raw =
    faults_from format_faults [] raw.formats ++ faults_from (instr_faults arrival wide raw.formats) [] raw.code

-- there are no faults
abbrev pub IsAccepted : ℕ → ℕ → RawValue → Type 0
IsAccepted arrival wide raw = code_faults arrival wide raw ≡ []

abbrev pub BeginsWith : {A : Type 0} → List A → A → Type 0
BeginsWith {A} faults first = (rest : List A) × (faults ≡ first ∷ rest)

-- this is the first fault
abbrev pub IsFirstFault : ℕ → ℕ → RawValue → CodeNo → Type 0
IsFirstFault arrival wide raw fault = BeginsWith (code_faults arrival wide raw) fault
