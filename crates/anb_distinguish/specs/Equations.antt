-- The equations of a code over terms: each register is a variable, and each instruction says what it holds.
use Rattle.std.specs.Prelude.{◌≡◌, ℕ, ◌+◌, ◌-◌, nat_lt, List, [], ◌∷◌, ◌++◌, length, map, IsTrue, slice_get, unwrap_or, if◌then◌else◌}
use Rattle.std.specs.List.{range_with_len}
use Rattle.anb_term.specs.Operator.{arity, keys, undoable}
use Rattle.anb_term.specs.Tree.{Tree, leaf, node, trees_of}
use Rattle.anb_plays.specs.Codes.{Act, takes, draws, receives, sends, works, Work, make, undo, equal}
use Rattle.anb_plays.specs.Exec.{count_written}
use Rattle.anb_unify.specs.Equations.{EquationValue, IsSolution, atoms_of}

module _ (names : ℕ) where
  -- registers as terms: the variables of their numbers
  abbrev pub registers : List ℕ → List Tree
  registers rs = map leaf (atoms_of names rs)

  -- what a work says, where n registers were written before: what is made is the operator on registers, what is undone is
  -- the operator on the keys and on the registers that are written, and what is compared is the other one
  abbrev pub work_equation : ℕ → Work → EquationValue
  work_equation n (make o rs) = record { variable = n; term = node o (trees_of (registers rs)) }
  work_equation n (undo o ks r) = record { variable = r; term = node o (trees_of (registers ks ++ registers (range_with_len n (arity o - keys o)))) }
  work_equation n (equal a b) = record { variable = a; term = leaf (names + b) }

  -- what acts say, where n registers were written before and i names were drawn
  abbrev pub equations_from : (ℕ → Tree) → List Act → ℕ → ℕ → List EquationValue
  equations_from draw [] n i = []
  equations_from draw (takes ∷ acts) n i = equations_from draw acts n i
  equations_from draw (draws ∷ acts) n i = record { variable = n; term = draw i } ∷ equations_from draw acts (n + 1) (i + 1)
  equations_from draw (receives ∷ acts) n i = equations_from draw acts (n + 1) i
  equations_from draw (sends r ∷ acts) n i = equations_from draw acts n i
  equations_from draw (works w ∷ acts) n i = work_equation n w ∷ equations_from draw acts (n + count_written w) i

-- registers from number n on hold these terms
abbrev pub held_from : List Tree → ℕ → List EquationValue
held_from [] n = []
held_from (t ∷ ts) n = record { variable = n; term = t } ∷ held_from ts (n + 1)

-- the first registers hold what is taken; then the code's instructions
abbrev pub equations_of : ℕ → List Tree → (ℕ → Tree) → List Act → List EquationValue
equations_of names init draw code = held_from init 0 ++ equations_from names draw code (length init) 0

-- the registers that receives write, where n were written before
abbrev pub received_from : List Act → ℕ → List ℕ
received_from [] n = []
received_from (takes ∷ acts) n = received_from acts n
received_from (draws ∷ acts) n = received_from acts (n + 1)
received_from (receives ∷ acts) n = n ∷ received_from acts (n + 1)
received_from (sends r ∷ acts) n = received_from acts n
received_from (works w ∷ acts) n = received_from acts (n + count_written w)

-- a code undoes only what can be undone
abbrev pub CanUndo : Work → Type 0
CanUndo (make o rs) = Unit {0}
CanUndo (undo o ks r) = IsTrue (undoable o)
CanUndo (equal a b) = Unit {0}

abbrev pub CanUndoAll : List Act → Type 0
CanUndoAll [] = Unit {0}
CanUndoAll (works w ∷ acts) = CanUndo w × CanUndoAll acts
CanUndoAll (act ∷ acts) = CanUndoAll acts

-- these are what a solution of the code's equations has at the registers that receives write
pub record AreSolved (names : ℕ) (init : List Tree) (draw : ℕ → Tree) (code : List Act) (arrivals : List Tree) : Type 0 where
  pub put : ℕ → Tree
  pub solution : IsSolution names (equations_of names init draw code) put
  pub are : arrivals ≡ map put (atoms_of names (received_from code (length init)))

-- the terms of a table in the places of its registers
abbrev pub assigned : ℕ → List Tree → ℕ → Tree
assigned names table n = if nat_lt n names then leaf n else unwrap_or (slice_get table (n - names)) (leaf 0)
