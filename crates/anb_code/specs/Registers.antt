-- Which registers an instruction reads and writes, and how wide these are.
use Rattle.std.specs.Prelude.{ℕ, ◌+◌, List, [], ◌∷◌, ◌++◌, map, replicate, slice_get, slice_index}
use Rattle.std.specs.Option.{option_map_or}
use Rattle.anb_format.specs.Formats.{FormatValue, field_count, pieces_at}
use Rattle.anb_format.specs.Widths.{format_width}
use Rattle.anb_format.specs.declared.pieces.Piece.{Piece}
use Rattle.anb_code.specs.declared.instr.Instr.{Instr}
use Rattle.anb_code.specs.declared.instr.Instr.TheVariants.{Take, Fresh, Recv, Hash, Mac, Seal, Unseal, Wrap, Unwrap, Build, Parse, Equal, Send}

abbrev pub operands : Instr → List ℕ
operands (Take text) = []
operands Fresh = []
operands Recv = []
operands (Hash r) = r ∷ []
operands (Mac k b) = k ∷ b ∷ []
operands (Seal k b) = k ∷ b ∷ []
operands (Unseal k c) = k ∷ c ∷ []
operands (Wrap k d b) = k ∷ d ∷ b ∷ []
operands (Unwrap k d c) = k ∷ d ∷ c ∷ []
operands (Build f rs) = rs
operands (Parse f r) = r ∷ []
operands (Equal a b) = a ∷ b ∷ []
operands (Send r) = r ∷ []

-- how many registers it writes
abbrev pub count_written : List FormatValue → Instr → ℕ
count_written formats (Parse f r) = field_count (pieces_at formats f)
count_written formats (Equal a b) = 0
count_written formats (Send r) = 0
count_written formats instr = 1

-- the width of what it writes, where registers before have these widths
abbrev pub width_of : ℕ → List FormatValue → List ℕ → Instr → ℕ
width_of arrival formats widths (Seal k b) = slice_index widths b + 32
width_of arrival formats widths (Unseal k c) = slice_index widths c
width_of arrival formats widths (Wrap k d b) = slice_index widths b + 32
width_of arrival formats widths (Unwrap k d c) = slice_index widths c
width_of arrival formats widths (Build f rs) = format_width arrival (pieces_at formats f) (map (slice_index widths) rs)
width_of arrival formats widths (Parse f r) = slice_index widths r
width_of arrival formats widths instr = arrival

-- those of the registers that it writes
abbrev pub written_widths : ℕ → List FormatValue → List ℕ → Instr → List ℕ
written_widths arrival formats widths instr = replicate (count_written formats instr) (width_of arrival formats widths instr)

abbrev pub widths_after : ℕ → List FormatValue → List ℕ → List Instr → List ℕ
widths_after arrival formats widths [] = widths
widths_after arrival formats widths (instr ∷ instrs) = widths_after arrival formats (widths ++ written_widths arrival formats widths instr) instrs

-- the widths of all registers, in the order of writing
abbrev pub register_widths : ℕ → List FormatValue → List Instr → List ℕ
register_widths arrival formats instrs = widths_after arrival formats [] instrs
