-- Where two values of one term differ: they are opened as far as the role has the keys.
use Rattle.std.specs.Prelude.{◌≡◌, ◌≢◌, ℕ, zero, suc, List, [], ◌∷◌, take, drop, Option, Some, None, option_and_then, slice_get, if◌then◌else◌}
use Rattle.std.specs.Option.{option_map}
use Rattle.std.specs.Str.{bytes_eq}
use Rattle.anb_format.specs.Formats.{FormatValue}
use Rattle.anb_format.specs.Reading.{parts_of}
use Rattle.anb_term.specs.declared.term.Op.{Op}
use Rattle.anb_term.specs.declared.term.Op.TheVariants.{Format}
use Rattle.anb_term.specs.Operator.{keys}
use Rattle.anb_term.specs.Tree.{Tree, leaf, node, Trees, none, more, list_of, tree_eqb}
use Rattle.anb_code.specs.CodeValue.{CodeValue}
use Rattle.anb_machine.specs.ByteRuns.{meaning_of}

-- a term, with the bytes of it that are due and those that came
pub record Difference : Type 0 where
  pub term : Tree
  pub due : List ℕ
  pub came : List ℕ

-- the bytes of the first of these registers that has this term
abbrev pub held : (terms : List Tree) → (table : List (List ℕ)) → Tree → Option (List ℕ)
held [] table t = None
held (u ∷ terms) [] t = None
held (u ∷ terms) (bytes ∷ table) t = if tree_eqb u t then Some bytes else held terms table t

-- and those of each of some terms
abbrev pub held_each : (terms : List Tree) → (table : List (List ℕ)) → List Tree → Option (List (List ℕ))
held_each terms table [] = Some []
held_each terms table (t ∷ ts) = option_and_then (λ bytes. option_map (λ rest. bytes ∷ rest) (held_each terms table ts)) (held terms table t)

-- the parts of a message of the format at a place
abbrev pub parsed : List FormatValue → (place : ℕ) → List ℕ → Option (List (List ℕ))
parsed formats place bytes = option_and_then (λ (format : FormatValue). parts_of format.pieces bytes) (slice_get formats place)

-- over a code, with the terms of its registers and the values of those that were written so far
module _ (code : CodeValue) (terms : List Tree) (table : List (List ℕ)) where
  -- what was sealed or wrapped, under keys that are held
  abbrev pub unlocked : Op → (operands : List Tree) → List ℕ → Option (List (List ℕ))
  unlocked o operands bytes = option_and_then (λ ks. (meaning_of code).undone o ks bytes) (held_each terms table (take (keys o) operands))

  -- what bytes of a term that is this operator on these operands open to
  abbrev pub opened : Op → (operands : List Tree) → List ℕ → Option (List (List ℕ))
  opened (Format i arity) operands bytes = parsed code.formats i bytes
  opened o operands bytes = unlocked o operands bytes

  -- both sides of a difference open
  pub record BothOpen (d : Difference) : Type 0 where
    pub operator : Op
    pub operands : Trees
    pub is : d.term ≡ node operator operands
    pub dues : List (List ℕ)
    pub cames : List (List ℕ)
    pub due_opens : opened operator (list_of operands) d.due ≡ Some dues
    pub came_opens : opened operator (list_of operands) d.came ≡ Some cames

  -- this stands in that: both sides of that open, and this is the first of their parts that differs
  pub record StandsIn (this that : Difference) : Type 0 where
    pub both : BothOpen that
    pub place : ℕ
    pub term : slice_get (drop (keys both.operator) (list_of both.operands)) place ≡ Some this.term
    pub due : slice_get both.dues place ≡ Some this.due
    pub came : slice_get both.cames place ≡ Some this.came
    pub same_before : take place both.dues ≡ take place both.cames
    pub apart : this.due ≢ this.came

  -- each of these stands in the one before it, and nothing in the last
  abbrev pub LeadsInward : Difference → List Difference → Type 0
  LeadsInward that [] = (this : Difference) → StandsIn this that → ⊥
  LeadsInward that (this ∷ rest) = StandsIn this that × LeadsInward this rest

  -- ---- the same as a computation

  abbrev pub in_both : Option (List (List ℕ)) → Option (List (List ℕ)) → (List (List ℕ) → List (List ℕ) → List Difference) → List Difference
  in_both None cames next = []
  in_both (Some xs) None next = []
  in_both (Some xs) (Some ys) next = next xs ys

  abbrev mutual
    -- the differences that lead inward from one of this term
    pub inward : Tree → (due came : List ℕ) → List Difference
    inward (leaf a) due came = []
    inward (node o ts) due came = in_both (opened o (list_of ts) due) (opened o (list_of ts) came) (inward_each (keys o) ts)

    -- the first of parts that have these terms, behind so many others, and what leads inward from it
    pub inward_each : ℕ → Trees → (dues cames : List (List ℕ)) → List Difference
    inward_each n none dues cames = []
    inward_each (suc n) (more t ts) dues cames = inward_each n ts dues cames
    inward_each zero (more t ts) [] cames = []
    inward_each zero (more t ts) (x ∷ dues) [] = []
    inward_each zero (more t ts) (x ∷ dues) (y ∷ cames) =
        if bytes_eq x y then inward_each zero ts dues cames else record { term = t; due = x; came = y } ∷ inward t x y

  -- those that lead inward from a difference
  abbrev pub inward_from : Difference → List Difference
  inward_from d = inward d.term d.due d.came

-- the last of those that lead inward from one
abbrev pub innermost : Difference → List Difference → Difference
innermost d [] = d
innermost d (inner ∷ rest) = innermost inner rest
