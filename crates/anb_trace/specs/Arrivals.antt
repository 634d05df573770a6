-- Which of two registers has what is due, and which what came.
use Rattle.std.specs.Prelude.{ℕ, ◌+◌, ◌-◌, max, ◌==◌, ◌&&◌, ◌||◌, nat_lt, Bool, List, [], ◌∷◌, ◌++◌, replicate, slice_index, Option, Some, None, if◌then◌else◌}
use Rattle.std.specs.Option.{option_map_or}
use Rattle.anb_format.specs.Formats.{FormatValue}
use Rattle.anb_code.specs.declared.instr.Instr.{Instr}
use Rattle.anb_code.specs.declared.instr.Instr.TheVariants.{Take, Fresh, Recv, Unseal, Unwrap, Parse}
use Rattle.anb_code.specs.CodeValue.{CodeValue}
use Rattle.anb_code.specs.Registers.{count_written, operands}

-- ---- the last arrival in a register

-- the latest of the arrivals in these registers, where those of all registers are given
abbrev pub latest : List ℕ → List ℕ → ℕ
latest arrivals [] = 0
latest arrivals (r ∷ rs) = max (slice_index arrivals r) (latest arrivals rs)

-- the last arrival in what an instruction writes: the next one itself, or the latest in what it's made of
abbrev pub arrival_of : List ℕ → (received : ℕ) → Instr → ℕ
arrival_of arrivals received Recv = received + 1
arrival_of arrivals received instr = latest arrivals (operands instr)

abbrev pub received_by : Instr → ℕ
received_by Recv = 1
received_by instr = 0

abbrev pub arrivals_after : List FormatValue → List ℕ → (received : ℕ) → List Instr → List ℕ
arrivals_after formats arrivals received [] = arrivals
arrivals_after formats arrivals received (instr ∷ instrs) =
    arrivals_after formats (arrivals ++ replicate (count_written formats instr) (arrival_of arrivals received instr)) (received + received_by instr) instrs

-- the number of the last arrival that a register was made of, for each; arrivals are counted from 1, and 0 is for what
-- is made of what is known and drawn
abbrev pub last_arrivals : CodeValue → List ℕ
last_arrivals code = arrivals_after code.formats [] 0 code.instrs

abbrev pub arrival_in : CodeValue → ℕ → ℕ
arrival_in code register = slice_index (last_arrivals code) register

-- ---- which comes first

-- the instruction that writes a register
abbrev pub writer : List FormatValue → List Instr → ℕ → Option Instr
writer formats [] register = None
writer formats (instr ∷ instrs) register =
    if nat_lt register (count_written formats instr) then Some instr else writer formats instrs (register - count_written formats instr)

-- what is known or made anew comes before what was built, and this before what came in
abbrev pub rank : Instr → ℕ
rank (Take text) = 0
rank Fresh = 0
rank Recv = 2
rank (Unseal k c) = 2
rank (Unwrap k d c) = 2
rank (Parse f r) = 2
rank instr = 1

abbrev pub rank_at : CodeValue → ℕ → ℕ
rank_at code register = option_map_or rank (writer code.formats code.instrs register) 0

-- of one rank, the one that was written first
abbrev pub ranks_first : CodeValue → ℕ → ℕ → Bool
ranks_first code a b = nat_lt (rank_at code a) (rank_at code b) || ((rank_at code a == rank_at code b) && nat_lt a b)

-- Of two registers that differ this one has what is due: the last arrival in it came before the last in the other. So a
-- commitment is due, and what opens it came. Where it is the same one, by rank.
abbrev pub comes_first : CodeValue → ℕ → ℕ → Bool
comes_first code a b =
    if arrival_in code a == arrival_in code b then ranks_first code a b else nat_lt (arrival_in code a) (arrival_in code b)
