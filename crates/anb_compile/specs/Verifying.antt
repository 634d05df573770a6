-- A code while it is written, as it is looked at when it is verified.
use Rattle.std.specs.Prelude.{◌≡◌, ℕ, ◌+◌, ◌-◌, ◌≤◌, List, [], ◌∷◌, ◌++◌, length, map, true, IsTrue, Some, slice_get, slice_index}
use Rattle.std.specs.List.{AllByRecursion}
use Rattle.anb_base.specs.declared.TheConstants.{ARRIVAL, WIDE}
use Rattle.anb_format.specs.Formats.{FormatValue}
use Rattle.anb_term.specs.declared.term.Op.{Op}
use Rattle.anb_term.specs.Operator.{arity, keys}
use Rattle.anb_term.specs.Tree.{Tree, trees_of, tree_size, trees_size}
use Rattle.anb_term.specs.Value.{RecipeTree}
use Rattle.anb_algebra.specs.ByteMeaning.{has_operator}
use Rattle.anb_close.specs.MadeView.{made_tree}
use Rattle.anb_basis.specs.declared.check.Check.{Check}
use Rattle.anb_basis.specs.declared.check.Check.TheVariants.{Open, Equal}
use Rattle.anb_code.specs.declared.instr.Instr.{Instr}
use Rattle.anb_code.specs.Registers.{operands, count_written, width_of, register_widths}
use Rattle.anb_code.specs.Verified.{EachAfter, HasItsFormat, IsInstrAfter}
use Rattle.anb_protocol.specs.Widths.{op_width, width, widths, fits_width, fit_width}
use Rattle.anb_compile.specs.declared.built.Built.{Built}
use Rattle.anb_compile.specs.declared.writer.Writer.{Writer}
use Rattle.anb_compile.specs.Sharing.{key, register_at}
use Rattle.anb_compile.specs.Writing.{IsOver, AreOver, AreChecksOf, count_opened}

-- the widths of the registers that are written
abbrev pub widths_in : List FormatValue → Writer → List ℕ
widths_in formats w = register_widths ARRIVAL formats w.code.items

-- registers with widths in order
abbrev pub HoldWidths : List ℕ → List ℕ → List ℕ → Type 0
HoldWidths all [] [] = Unit {0}
HoldWidths all [] (w ∷ ws) = ⊥
HoldWidths all (r ∷ rs) [] = ⊥
HoldWidths all (r ∷ rs) (w ∷ ws) = (slice_get all r ≡ Some w) × HoldWidths all rs ws

-- each register that was built is as wide as its operator makes it of those from which it was
pub record IsBuiltWide (formats : List FormatValue) (ws : List ℕ) (k : List ℕ) (r : ℕ) : Type 0 where
  pub op : Op
  pub from : List ℕ
  pub are : List ℕ
  pub is : k ≡ key op from
  pub hold : HoldWidths ws from are
  pub here : slice_get ws r ≡ Some (op_width ARRIVAL formats op are)

abbrev pub AreBuiltWide : List FormatValue → List ℕ → Built → Type 0
AreBuiltWide formats ws b = (k : List ℕ) (r : ℕ) → register_at b k ≡ Some r → IsBuiltWide formats ws k r

-- each instruction may come after those before it, no register is too wide, and those of the entries are
-- as wide as an arrival
pub record IsVerifiable (formats : List FormatValue) (w : Writer) : Type 0 where
  pub instrs : EachAfter (IsInstrAfter formats) [] w.code.items
  pub next : w.next ≡ length (widths_in formats w)
  pub narrow : AllByRecursion (λ x. x ≤ WIDE) (widths_in formats w)
  pub placed : (n k : ℕ) → slice_get w.places.items n ≡ Some k → slice_get (widths_in formats w) k ≡ Some ARRIVAL
  pub built : AreBuiltWide formats (widths_in formats w) w.built

-- an instruction that writes one register, of an operator on these registers
pub record IsMaking (o : Op) (rs : List ℕ) (x : Instr) : Type 0 where
  pub reads : operands x ≡ rs
  pub writes : (formats : List FormatValue) → count_written formats x ≡ 1
  pub format : (formats : List FormatValue) → IsTrue (has_operator formats o) → HasItsFormat formats x
  pub wide : (formats : List FormatValue) (ws : List ℕ) → width_of ARRIVAL formats ws x ≡ op_width ARRIVAL formats o (map (slice_index ws) rs)

-- one that writes the parts of a register, undone with these keys
pub record IsUndoing (o : Op) (ks : List ℕ) (of : ℕ) (x : Instr) : Type 0 where
  pub reads : operands x ≡ ks ++ of ∷ []
  pub writes : (formats : List FormatValue) → IsTrue (has_operator formats o) → count_written formats x ≡ arity o - keys o
  pub format : (formats : List FormatValue) → IsTrue (has_operator formats o) → HasItsFormat formats x
  pub wide : (formats : List FormatValue) (ws : List ℕ) → width_of ARRIVAL formats ws x ≡ slice_index ws of

-- there are at most so many instructions and registers
pub record IsWithin (w : Writer) (n : ℕ) : Type 0 where
  pub instrs : length w.code.items ≤ n
  pub registers : w.next ≤ n

-- at most so many of each came
pub record GrowsBy (old new : Writer) (n : ℕ) : Type 0 where
  pub instrs : length new.code.items ≤ length old.code.items + n
  pub registers : new.next ≤ old.next + n

-- neither this term or composition nor a part of it is too wide
abbrev pub IsNarrow : List FormatValue → Tree → Type 0
IsNarrow formats t = fits_width ARRIVAL formats WIDE t ≡ true

abbrev pub AreNarrow : List FormatValue → List Tree → Type 0
AreNarrow formats ts = fit_width ARRIVAL formats WIDE (trees_of ts) ≡ true

-- registers were written since
pub record IsLonger (formats : List FormatValue) (old new : Writer) : Type 0 where
  pub verifiable : IsVerifiable formats new
  pub since : List ℕ
  pub grown : widths_in formats new ≡ widths_in formats old ++ since

-- and this one has this width
pub record HasWidth (formats : List FormatValue) (old new : Writer) (r wide : ℕ) : Type 0 where
  pub longer : IsLonger formats old new
  pub holds : slice_get (widths_in formats new) r ≡ Some wide

abbrev pub Lays : Writer → Writer → Tree → ℕ → Type 0
Lays old new m r = (formats : List FormatValue) → IsOver (has_operator formats) (length old.places.items) m → IsNarrow formats m → IsVerifiable formats old
    → HasWidth formats old new r (width ARRIVAL formats m)

pub record HaveWidths (formats : List FormatValue) (old new : Writer) (rs ws : List ℕ) : Type 0 where
  pub longer : IsLonger formats old new
  pub hold : HoldWidths (widths_in formats new) rs ws

abbrev pub LaysEach : Writer → Writer → List Tree → List ℕ → Type 0
LaysEach old new ms rs = (formats : List FormatValue) → AreOver (has_operator formats) (length old.places.items) (trees_of ms) → AreNarrow formats ms → IsVerifiable formats old
    → HaveWidths formats old new rs (widths ARRIVAL formats (trees_of ms))

-- what a check composes is nowhere too wide
abbrev pub IsNarrowCheck : List FormatValue → Check → Type 0
IsNarrowCheck formats (Open x) = AreNarrow formats x.keys
IsNarrowCheck formats (Equal i w) = IsNarrow formats (made_tree w)

abbrev pub LaysChecks : Writer → Writer → List Check → Type 0
LaysChecks old new cs = (formats : List FormatValue) (entries : List RecipeTree) → AreChecksOf (has_operator formats) entries (length old.places.items) cs → AllByRecursion (IsNarrowCheck formats) cs
    → IsVerifiable formats old → IsLonger formats old new

-- the most instructions, or registers, that a check takes
abbrev pub room_for : Check → ℕ
room_for (Open x) = trees_size (trees_of x.keys) + count_opened (Open x) + 1
room_for (Equal i w) = tree_size (made_tree w) + 1
