-- Which code is spelled by one that names its formats and numbers its registers.
use Rattle.std.specs.Prelude.{ℕ, ◌+◌, Bool, List, [], ◌∷◌, map, slice_get, slice_index}
use Rattle.std.specs.List.{position_or_len, range_with_len}
use Rattle.std.specs.Option.{option_map_or}
use Rattle.std.specs.Str.{bytes_eq}
use Rattle.anb_format.specs.Formats.{FormatValue}
use Rattle.anb_code.specs.declared.instr.Instr.{Instr}
use Rattle.anb_code.specs.declared.instr.Instr.TheVariants as instr
use Rattle.anb_code.specs.declared.raw.What.{What}
use Rattle.anb_code.specs.declared.raw.What.TheVariants.{Take, Fresh, Recv, Hash, Mac, Seal, Unseal, Wrap, Unwrap, Build, Parse, Equal, Send}
use Rattle.anb_code.specs.CodeValue.{CodeValue}
use Rattle.anb_code.specs.RawValue.{RawInstrValue, RawValue}
use Rattle.anb_code.specs.Registers.{count_written, operands}

abbrev pub is_named : List ℕ → FormatValue → Bool
is_named name format = bytes_eq format.name name

-- the place of the format with this name
abbrev pub place_of : List FormatValue → List ℕ → ℕ
place_of formats name = position_or_len (is_named name) formats

abbrev pub spelled : List FormatValue → List ℕ → List ℕ → What → Instr
spelled formats name args Take = instr.Take name
spelled formats name args Fresh = instr.Fresh
spelled formats name args Recv = instr.Recv
spelled formats name args Hash = instr.Hash (slice_index args 0)
spelled formats name args Mac = instr.Mac (slice_index args 0) (slice_index args 1)
spelled formats name args Seal = instr.Seal (slice_index args 0) (slice_index args 1)
spelled formats name args Unseal = instr.Unseal (slice_index args 0) (slice_index args 1)
spelled formats name args Wrap = instr.Wrap (slice_index args 0) (slice_index args 1) (slice_index args 2)
spelled formats name args Unwrap = instr.Unwrap (slice_index args 0) (slice_index args 1) (slice_index args 2)
spelled formats name args Build = instr.Build (place_of formats name) args
spelled formats name args Parse = instr.Parse (place_of formats name) (slice_index args 0)
spelled formats name args Equal = instr.Equal (slice_index args 0) (slice_index args 1)
spelled formats name args Send = instr.Send (slice_index args 0)

abbrev pub instr_of : List FormatValue → RawInstrValue → Instr
instr_of formats raw = spelled formats raw.name raw.args raw.what

-- the same code, with formats by their places and registers by the order of writing
abbrev pub code_of : RawValue → CodeValue
code_of raw = record {
  protocol = raw.protocol;
  role = raw.role;
  suite = raw.suite;
  formats = raw.formats;
  instrs = map (instr_of raw.formats) raw.code;
}

-- ---- and back

abbrev pub what_of : Instr → What
what_of (instr.Take text) = Take
what_of instr.Fresh = Fresh
what_of instr.Recv = Recv
what_of (instr.Hash r) = Hash
what_of (instr.Mac k b) = Mac
what_of (instr.Seal k b) = Seal
what_of (instr.Unseal k c) = Unseal
what_of (instr.Wrap k d b) = Wrap
what_of (instr.Unwrap k d c) = Unwrap
what_of (instr.Build f rs) = Build
what_of (instr.Parse f r) = Parse
what_of (instr.Equal a b) = Equal
what_of (instr.Send r) = Send

abbrev pub name_at : List FormatValue → ℕ → List ℕ
name_at formats f = option_map_or (λ (format : FormatValue). format.name) (slice_get formats f) []

-- the text of a take, the format's name of a build or a parse, and else nothing
abbrev pub name_of : List FormatValue → Instr → List ℕ
name_of formats (instr.Take text) = text
name_of formats (instr.Build f rs) = name_at formats f
name_of formats (instr.Parse f r) = name_at formats f
name_of formats other = []

-- an instruction whose first register is this one
abbrev pub raw_instr : List FormatValue → ℕ → Instr → RawInstrValue
raw_instr formats next i = record { to = range_with_len next (count_written formats i); what = what_of i; name = name_of formats i; args = operands i }

abbrev pub raw_instrs : List FormatValue → ℕ → List Instr → List RawInstrValue
raw_instrs formats next [] = []
raw_instrs formats next (i ∷ instrs) = raw_instr formats next i ∷ raw_instrs formats (next + count_written formats i) instrs

-- the code that names its formats and numbers its registers from 0
abbrev pub raw_of : CodeValue → RawValue
raw_of code = record {
  protocol = code.protocol;
  role = code.role;
  suite = code.suite;
  formats = code.formats;
  code = raw_instrs code.formats 0 code.instrs;
}
