-- Operators: how many operands each takes, and with how many keys it is undone.
use Rattle.std.specs.Prelude.{ℕ, Bool, true, false, ◌&&◌, ◌==◌}
use Rattle.anb_term.specs.declared.term.Op.{Op}
use Rattle.anb_term.specs.declared.term.Op.TheVariants.{Hash, Mac, Seal, Wrap, Format}

-- how many operands it takes
abbrev pub arity : Op → ℕ
arity Hash = 1
arity Mac = 2
arity Seal = 2
arity Wrap = 3
arity (Format i a) = a

-- how many of its operands, the first ones, are keys; the others are its parts
abbrev pub keys : Op → ℕ
keys Hash = 0
keys Mac = 0
keys Seal = 1
keys Wrap = 2
keys (Format i a) = 0

-- whether it can be undone
abbrev pub undoable : Op → Bool
undoable Hash = false
undoable Mac = false
undoable Seal = true
undoable Wrap = true
undoable (Format i a) = true

-- whether both are one operator
abbrev pub op_eqb : Op → Op → Bool
op_eqb Hash Hash = true
op_eqb Mac Mac = true
op_eqb Seal Seal = true
op_eqb Wrap Wrap = true
op_eqb (Format i a) (Format j b) = (i == j) && (a == b)
op_eqb _ _ = false
