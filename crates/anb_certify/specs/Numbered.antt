-- The terms of registers and what was done on them; a register that is loose.
use Rattle.std.specs.Prelude.{◌≡◌, ℕ, suc, ◌<◌, List, [], ◌∷◌, ◌++◌, length, map, take, Bool, true, false, Option, Some, None, slice_get, ◌⊎◌, ◌↔◌}
use Rattle.anb_term.specs.Operator.{arity, undoable}
use Rattle.anb_term.specs.Tree.{Tree}
use Rattle.anb_term.specs.FreeAlgebra.{terms}
use Rattle.anb_term.specs.declared.term.Op.{Op}
use Rattle.anb_plays.specs.Codes.{Work, make, undo}
use Rattle.anb_plays.specs.Exec.{worked}
use Rattle.anb_intern.specs.declared.node.NodeId.{NodeId}
use Rattle.anb_certify.specs.Tied.{Did, Tied, KeepsRules}
use Rattle.anb_intern.specs.Nodes.{operands_at}
use Rattle.anb_certify.specs.declared.table.Table.{Table}
use Rattle.anb_certify.specs.Works.{did_of, AreTold}

pub record TableValue : Type 0 where
  pub terms : List Tree
  pub did : List (ℕ × Work)

-- what a table of registers tells
abbrev pub terms_in : Table → List Tree
terms_in table = operands_at table.pool table.ids.items

abbrev pub did_in : Table → List (ℕ × Work)
did_in table = map did_of table.done.items

abbrev pub value_of : Table → TableValue
value_of table = record { terms = terms_in table; did = did_in table }

-- what a work writes stands in new registers, where its demand is true
abbrev pub IsWritten : TableValue → Work → Bool → TableValue → Type 0
IsWritten old w works new = (works ≡ false → worked terms old.terms w ≡ None)
    × (works ≡ true → (wrote : List Tree) × (worked terms old.terms w ≡ Some wrote) × (new.terms ≡ old.terms ++ wrote) × (new.did ≡ old.did))

-- an operator with these keys undoes what an operator built from these operands
abbrev pub Opens : Op → List NodeId → Op → List NodeId → Type 0
Opens o ks built ids = (undoable o ≡ true) × (o ≡ built) × (length ids ≡ arity o) × (take (length ks) ids ≡ ks)

-- a work was done
pub record HasWorked (old : TableValue) (w : Work) (new : TableValue) : Type 0 where
  pub wrote : List Tree
  pub worked : worked terms old.terms w ≡ Some wrote
  pub terms : new.terms ≡ old.terms ++ wrote
  pub did : new.did ≡ old.did ++ (length old.terms, w) ∷ []

-- a register that breaks a rule, and no earlier one does
pub record IsLoose (did : List (ℕ × Work)) (terms : List Tree) (i : ℕ) : Type 0 where
  pub within : i < length terms
  pub breaks : KeepsRules did terms i → ⊥
  pub first : (k : ℕ) → k < i → KeepsRules did terms k

-- f is the first with the number of i
pub record IsFirst (ids : List NodeId) (i f : ℕ) : Type 0 where
  pub here : f < length ids
  pub same : slice_get ids f ≡ slice_get ids i
  pub least : (k : ℕ) → slice_get ids k ≡ slice_get ids i → k < f → ⊥

-- for each register, the first with its number
pub record AreFirsts (ids : List NodeId) (firsts : List ℕ) : Type 0 where
  pub long : length firsts ≡ length ids
  pub each : (i f : ℕ) → slice_get firsts i ≡ Some f → IsFirst ids i f

-- behind the first n: for each number the first register with it, and these for the registers
pub record AreSeen (ids : List NodeId) (n : ℕ) (seen : List (Option ℕ)) (firsts : List ℕ) : Type 0 where
  pub some : (k : ℕ) (f : ℕ) → slice_get seen k ≡ Some (Some f) → (id : NodeId) × (slice_get ids f ≡ Some id) × (id.0 ≡ k) × (f < n)
  pub least : (k : ℕ) (f i : ℕ) (id : NodeId) → slice_get seen k ≡ Some (Some f) → slice_get ids i ≡ Some id → id.0 ≡ k → i < f → ⊥
  pub none : (k : ℕ) (i : ℕ) (id : NodeId) → slice_get seen k ≡ Some None → slice_get ids i ≡ Some id → id.0 ≡ k → i < n → ⊥
  pub each : (i f : ℕ) → slice_get firsts i ≡ Some f → IsFirst ids i f

-- a register with its flag set is named by the first of its term, and others by themselves
pub record AreBegun (firsts : List ℕ) (flags : List Bool) (names : List ℕ) : Type 0 where
  pub each : (i c : ℕ) → slice_get names i ≡ Some c → ((slice_get flags i ≡ Some true) × (slice_get firsts i ≡ Some c)) ⊎ (c ≡ i)
  pub flagged : (i c : ℕ) → slice_get names i ≡ Some c → slice_get flags i ≡ Some true → slice_get firsts i ≡ Some c

-- all are below n
abbrev pub AreBelow : ℕ → List ℕ → Type 0
AreBelow n cs = (i c : ℕ) → slice_get cs i ≡ Some c → c < n

-- a flag is set only at a register that is tied to the one that a list names
abbrev pub AreSettled : List (ℕ × Work) → List ℕ → List Bool → Type 0
AreSettled did firsts flags = (i f : ℕ) → slice_get flags i ≡ Some true → slice_get firsts i ≡ Some f → Tied did i f

-- registers by their terms: what was done tells of the terms, and each term has a first register
pub record AreGrouped (ts : List Tree) (did : List (ℕ × Work)) (firsts : List ℕ) : Type 0 where
  pub told : AreTold ts did
  pub long : length firsts ≡ length ts
  pub there : (i f : ℕ) → slice_get firsts i ≡ Some f → slice_get ts f ≡ slice_get ts i
  pub alike : (i k : ℕ) → slice_get ts i ≡ slice_get ts k → slice_get firsts i ≡ slice_get firsts k
  pub least : (i f : ℕ) → slice_get firsts i ≡ Some f → f < suc i

-- a class, by the register that names it, has one that was built or undone
abbrev pub IsKnown : List (ℕ × Work) → List ℕ → ℕ → Type 0
IsKnown did names c = ((at : ℕ) × (o : Op) × (ns : List ℕ) × Did did at (make o ns) × (slice_get names at ≡ Some c))
    ⊎ ((at : ℕ) × (o : Op) × (ks : List ℕ) × (n : ℕ) × Did did at (undo o ks n) × (slice_get names n ≡ Some c))

-- flags of the classes that are known
abbrev pub AreKnown : List (ℕ × Work) → List ℕ → List Bool → Type 0
AreKnown did names flags = (c : ℕ) → (slice_get flags c ≡ Some true) ↔ IsKnown did names c

-- a register is of the class of the first of its term, which is known where it is to be
pub record Passes (firsts names : List ℕ) (known : List Bool) (wanted : Bool) (i : ℕ) : Type 0 where
  pub first : ℕ
  pub class : ℕ
  pub is_first : slice_get firsts i ≡ Some first
  pub of_first : slice_get names first ≡ Some class
  pub of_it : slice_get names i ≡ Some class
  pub as_wanted : wanted ≡ true → slice_get known class ≡ Some true
