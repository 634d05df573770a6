-- Works by their operators and the classes of their operands.
use Rattle.std.specs.Prelude.{◌≡◌, ℕ, List, length, Option, Some, slice_get, ◌⊎◌}
use Rattle.anb_term.specs.declared.term.Op.{Op}
use Rattle.anb_term.specs.Tree.{Tree, node, trees_of}
use Rattle.anb_term.specs.Lawful.{picked}
use Rattle.anb_intern.specs.Nodes.{operands_at, AreUnder}
use Rattle.anb_certify.specs.declared.signs.Signs.{Signs}

-- the classes of registers, the operators on classes, and the first register that each wrote
pub record SignsValue : Type 0 where
  pub classes : List Tree
  pub signs : List Tree
  pub owners : List (Option ℕ)

abbrev pub sign_of : List Tree → Op → List ℕ → Tree
sign_of classes o ns = node o (trees_of (picked classes ns))

abbrev pub Owns : SignsValue → Tree → ℕ → Type 0
Owns v s x = (k : ℕ) × (slice_get v.signs k ≡ Some s) × (slice_get v.owners k ≡ Some (Some x))

abbrev pub classes_in : Signs → List Tree
classes_in signs = operands_at signs.pool signs.classes.items

abbrev pub signs_in : Signs → SignsValue
signs_in signs = record { classes = classes_in signs; signs = signs.pool; owners = signs.owners.items }

-- its numbers are the pool's, and each has its place among the owners
abbrev pub IsSigns : Signs → Type 0
IsSigns signs = AreUnder (length signs.pool) signs.classes.items × (length signs.owners.items ≡ length signs.pool)

-- what a look-up gives: who owns the sign, which is the one that asked where there was none
pub record HasSigned (old : SignsValue) (s : Tree) (at : ℕ) (new : SignsValue) (x : ℕ) : Type 0 where
  pub classes : new.classes ≡ old.classes
  pub owns : Owns new s x
  pub kept : (t : Tree) (y : ℕ) → Owns old t y → Owns new t y
  pub only : (t : Tree) (y : ℕ) → Owns new t y → Owns old t y ⊎ ((t ≡ s) × (y ≡ at))
  pub one : (t : Tree) (y z : ℕ) → Owns new t y → Owns new t z → y ≡ z

-- what becomes of the owners
pub record Owned (old : List (Option ℕ)) (id at : ℕ) (new : List (Option ℕ)) (x : ℕ) : Type 0 where
  pub here : slice_get new id ≡ Some (Some x)
  pub kept : (k y : ℕ) → slice_get old k ≡ Some (Some y) → slice_get new k ≡ Some (Some y)
  pub only : (k y : ℕ) → slice_get new k ≡ Some (Some y) → slice_get old k ≡ Some (Some y) ⊎ ((k ≡ id) × (y ≡ at))
