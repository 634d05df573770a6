-- For proofs alone: the first part of a term whose sides differ, and what leads inward from it.
use Rattle.std.specs.Prelude.{◌≡◌, ℕ, List, [], ◌∷◌, length, drop, map, Bool, Option, Some, None, if◌then◌else◌}
use Rattle.std.specs.Str.{bytes_eq}
use Rattle.anb_term.specs.Operator.{arity, keys}
use Rattle.anb_term.specs.Tree.{Tree, leaf, node, list_of}
use Rattle.anb_term.specs.View.{tree_of}
use Rattle.anb_code.specs.CodeValue.{CodeValue}
use Rattle.anb_protocol.specs.Protocols.{ProtocolValue}
use Rattle.anb_trace.specs.declared.differences.Holding.{Holding}
use Rattle.anb_trace.specs.declared.differences.Part.{Part}
use Rattle.anb_trace.specs.declared.differences.Sides.{Sides}
use Rattle.anb_trace.specs.Differences.{Difference, innermost, inward_from, opened}
use Rattle.anb_trace.specs.Words.{place_text, sides_text}

abbrev pub difference_of : Tree → Sides → Difference
difference_of t s = record { term = t; due = s.due; came = s.came }

abbrev pub part_value : Part → Difference
part_value p = difference_of (tree_of p.term.now) p.sides

-- an operator has as many operands as it takes
abbrev pub HasArity : Tree → Type 0
HasArity (leaf a) = Unit {0}
HasArity (node o ts) = length (list_of ts) ≡ arity o

-- the first of these parts that differs
abbrev pub first_apart : List Tree → (dues cames : List (List ℕ)) → Option Difference
first_apart [] dues cames = None
first_apart (t ∷ ts) [] cames = None
first_apart (t ∷ ts) (x ∷ dues) [] = None
first_apart (t ∷ ts) (x ∷ dues) (y ∷ cames) = if bytes_eq x y then first_apart ts dues cames else Some (record { term = t; due = x; came = y })

-- of both where both are there
abbrev pub apart_in_both : List Tree → Option (List (List ℕ)) → Option (List (List ℕ)) → Option Difference
apart_in_both ts None cames = None
apart_in_both ts (Some xs) None = None
apart_in_both ts (Some xs) (Some ys) = first_apart ts xs ys

module _ (code : CodeValue) (terms : List Tree) (table : List (List ℕ)) where
  -- what stands in a term with these sides
  abbrev pub inner_at : Tree → (due came : List ℕ) → Option Difference
  inner_at (leaf a) due came = None
  inner_at (node o ts) due came =
      apart_in_both (drop (keys o) (list_of ts)) (opened code terms table o (list_of ts) due) (opened code terms table o (list_of ts) came)

  -- it, and what leads inward from it
  abbrev pub from_inner : Option Difference → List Difference
  from_inner None = []
  from_inner (Some d) = d ∷ inward_from code terms table d

  -- how a difference is told
  abbrev pub difference_told : ProtocolValue → (came : Bool) → Difference → List ℕ
  difference_told p came d =
      let inner = inward_from code terms table d in
      sides_text came (place_text p d inner) (innermost d inner).due (innermost d inner).came

-- over what a role has
abbrev pub inner_of : Holding → Tree → (due came : List ℕ) → Option Difference
inner_of h t due came = inner_at h.code.now (map tree_of h.terms.now) h.registers.now t due came

abbrev pub inward_over : Holding → Difference → List Difference
inward_over h d = inward_from h.code.now (map tree_of h.terms.now) h.registers.now d

abbrev pub difference_over : ProtocolValue → Holding → (came : Bool) → Difference → List ℕ
difference_over p h came d = difference_told h.code.now (map tree_of h.terms.now) h.registers.now p came d
