-- What a code does, in acts over registers.
use Rattle.std.specs.Prelude.{◌≡◌, List, [], ◌∷◌, length, map, Some, slice_get}
use Rattle.anb_term.specs.declared.term.Op.{Op}
use Rattle.anb_term.specs.declared.term.Op.TheVariants as op
use Rattle.anb_format.specs.Formats.{FormatValue, IsSound, field_count, pieces_at}
use Rattle.anb_plays.specs.Codes.{Act, takes, draws, receives, sends, works, make, undo, equal}
use Rattle.anb_code.specs.declared.instr.Instr.{Instr}
use Rattle.anb_code.specs.declared.instr.Instr.TheVariants.{Take, Fresh, Recv, Hash, Mac, Seal, Unseal, Wrap, Unwrap, Build, Parse, Equal, Send}
use Rattle.anb_code.specs.CodeValue.{CodeValue}

abbrev pub act_of : List FormatValue → Instr → Act
act_of formats (Take text) = takes
act_of formats Fresh = draws
act_of formats Recv = receives
act_of formats (Hash r) = works (make op.Hash (r ∷ []))
act_of formats (Mac k b) = works (make op.Mac (k ∷ b ∷ []))
act_of formats (Seal k b) = works (make op.Seal (k ∷ b ∷ []))
act_of formats (Unseal k c) = works (undo op.Seal (k ∷ []) c)
act_of formats (Wrap k d b) = works (make op.Wrap (k ∷ d ∷ b ∷ []))
act_of formats (Unwrap k d c) = works (undo op.Wrap (k ∷ d ∷ []) c)
act_of formats (Build f rs) = works (make (op.Format f (length rs)) rs)
act_of formats (Parse f r) = works (undo (op.Format f (field_count (pieces_at formats f))) [] r)
act_of formats (Equal a b) = works (equal a b)
act_of formats (Send r) = sends r

-- the meaning of a code: its run is theirs
abbrev pub acts_of : CodeValue → List Act
acts_of code = map (act_of code.formats) code.instrs

-- an operator over these formats
abbrev pub IsOperator : List FormatValue → Op → Type 0
IsOperator formats (op.Format f arity) =
    (format : FormatValue) × (slice_get formats f ≡ Some format) × IsSound format.pieces × (field_count format.pieces ≡ arity)
IsOperator formats o = Unit {0}
