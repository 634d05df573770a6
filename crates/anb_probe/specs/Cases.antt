-- Cases: arrivals over which a code that lacks one check goes on to its end, and the code itself stops at that check.
use Rattle.std.specs.Prelude.{◌≡◌, ℕ, ◌+◌, ◌==◌, ◌&&◌, List, [], ◌∷◌, ◌++◌, length, map, Bool, true, false, IsTrue, Option, Some, None, unwrap_or, slice_get, if◌then◌else◌, ◌⊎◌}
use Rattle.anb_term.specs.declared.term.Op.{Op}
use Rattle.anb_term.specs.Tree.{Tree, leaf, node, trees_of, AreFormed}
use Rattle.anb_term.specs.Operator.{keys, undoable}
use Rattle.anb_term.specs.Value.{Meaning, RecipeTree, label, value}
use Rattle.anb_term.specs.Demand.{all_hold}
use Rattle.anb_term.specs.FreeAlgebra.{terms, terms_over}
use Rattle.anb_plays.specs.Plans.{Event, known}
use Rattle.anb_plays.specs.Plays.{Played, stopped, done}
use Rattle.anb_plays.specs.Codes.{Act, takes, draws, receives, sends, works, Work, make, undo, equal, at_register, writes, demands}
use Rattle.anb_plays.specs.Runs.{run}
use Rattle.anb_plays.specs.Honest.{honest, heard, made}

-- a run that used all that came, and is over
pub record IsOver {A : Type 0} (played : Played A) : Type 0 where
  pub end : played.end ≡ done
  pub used : played.left ≡ []

-- a comparison of two registers
abbrev pub is_comparison : Act → Bool
is_comparison (works (equal a b)) = true
is_comparison act = false

-- Checks are the comparisons of a code, told by the numbers of their instructions. These are numbered from 1.
-- Acts without some checks, where `at` instructions stand before:
abbrev pub without : (ℕ → Bool) → ℕ → List Act → List Act
without drops at [] = []
without drops at (act ∷ acts) = (if is_comparison act && drops (at + 1) then [] else act ∷ []) ++ without drops (at + 1) acts

-- the code less some checks, and less one
abbrev pub less_all : (ℕ → Bool) → List Act → List Act
less_all drops code = without drops 0 code

abbrev pub less : ℕ → List Act → List Act
less check code = less_all (λ n. n == check) code

-- what the two registers of a comparison hold
pub record Sides (A : Type 0) : Type 0 where
  pub one : A
  pub other : A

abbrev pub both_sides : {A : Type 0} → Option A → Option A → Option (Sides A)
both_sides None y = None
both_sides (Some x) None = None
both_sides (Some x) (Some y) = Some (record { one = x; other = y })

module _ {A : Type 0} (m : Meaning A) where
  abbrev pub sides : List A → List RecipeTree → Work → Option (Sides A)
  sides vs regs (equal a b) = both_sides (value m vs (at_register regs a)) (value m vs (at_register regs b))
  sides vs regs (make o ns) = None
  sides vs regs (undo o ks n) = None

  module _ (draw : ℕ → A) (check : ℕ) where
    -- along a run: what this check compares, where the run comes to it
    abbrev pub compared_from : List Act → List RecipeTree → List A → ℕ → ℕ → List A → Option (Sides A)
    compared_from [] regs vs at i arrivals = None
    compared_from (takes ∷ acts) regs vs at i arrivals = compared_from acts (regs ++ label (length regs) ∷ []) vs (at + 1) i arrivals
    compared_from (draws ∷ acts) regs vs at i arrivals = compared_from acts (regs ++ label (length vs) ∷ []) (vs ++ draw i ∷ []) (at + 1) (i + 1) arrivals
    compared_from (receives ∷ acts) regs vs at i [] = None
    compared_from (receives ∷ acts) regs vs at i (x ∷ arrivals) = compared_from acts (regs ++ label (length vs) ∷ []) (vs ++ x ∷ []) (at + 1) i arrivals
    compared_from (sends n ∷ acts) regs vs at i arrivals = compared_from acts regs vs (at + 1) i arrivals
    compared_from (works w ∷ acts) regs vs at i arrivals =
        if at + 1 == check then sides vs regs w
        else (if all_hold m vs (demands regs w) then compared_from acts (regs ++ writes regs w) vs (at + 1) i arrivals else None)

    abbrev pub compared : List Act → List A → List A → Option (Sides A)
    compared code init arrivals = compared_from code [] init 0 0 arrivals

-- In terms what a role knows and draws are the names of its plan, and what it hears are terms over these and further ones.
abbrev pub drawn : List Event → ℕ → Tree
drawn plan i = unwrap_or (slice_get (made plan) i) (leaf 0)

abbrev pub run_in_terms : (Op → Bool) → List Event → List Act → List Tree → Played Tree
run_in_terms has plan code arrivals = run (terms_over has) (drawn plan) code (known plan) arrivals

abbrev pub compared_in_terms : (Op → Bool) → List Event → ℕ → List Act → List Tree → Option (Sides Tree)
compared_in_terms has plan check code arrivals = compared (terms_over has) (drawn plan) check code (known plan) arrivals

-- The spare name is the first atom behind the names; it stands for a wrong value. This puts a term in its place.
abbrev pub for_spare : ℕ → Tree → ℕ → Tree
for_spare names t n = if n == names then t else leaf n

-- what arrives, the narrated term that the spare name stands in place of, and what the check compares then
pub record CaseValue : Type 0 where
  pub arrivals : List Tree
  pub wrong : Tree
  pub sides : Sides Tree

-- The arrivals are the narrated ones but for the spare name. The code less the check goes on over them to its end; the
-- code comes to the check, where it finds these sides, and stops there.
pub record IsCase (has : Op → Bool) (names : ℕ) (plan : List Event) (code : List Act) (check : ℕ) (case : CaseValue) : Type 0 where
  pub formed : AreFormed has (trees_of (case.sides.one ∷ case.sides.other ∷ case.arrivals))
  pub narrated : map (honest terms (for_spare names case.wrong)) case.arrivals ≡ heard plan
  pub goes_on : IsOver (run_in_terms has plan (less check code) case.arrivals)
  pub finds : compared_in_terms has plan check code case.arrivals ≡ Some case.sides
  pub stops : (event : ℕ) × ((run_in_terms has plan code case.arrivals).end ≡ stopped event check)

-- The other checks imply this one in terms: whatever terms arrive, where the code less the check goes on, the code does.
abbrev pub IsImplied : (Op → Bool) → List Event → List Act → ℕ → Type 0
IsImplied has plan code check = (arrivals : List Tree) → IsOver (run_in_terms has plan (less check code) arrivals) → IsOver (run_in_terms has plan code arrivals)

-- one side of a check has the operator, and so has the other, under the same keys; these are the parts with a number
pub record AreBelow (i : ℕ) (one other p q : Tree) : Type 0 where
  pub op : Op
  pub keyed : List Tree
  pub ones : List Tree
  pub others : List Tree
  pub one_is : one ≡ node op (trees_of (keyed ++ ones))
  pub other_is : other ≡ node op (trees_of (keyed ++ others))
  pub can : IsTrue (undoable op)
  pub count : length keyed ≡ keys op
  pub one_here : slice_get ones i ≡ Some p
  pub other_here : slice_get others i ≡ Some q

-- At a place with only formats and bodies of seals above it one side has the spare name, and the other the term that the
-- spare name stands in place of.
abbrev pub DifferAt : ℕ → Tree → List ℕ → Tree → Tree → Type 0
DifferAt spare wrong [] one other = ((one ≡ leaf spare) × (other ≡ wrong)) ⊎ ((one ≡ wrong) × (other ≡ leaf spare))
DifferAt spare wrong (i ∷ place) one other = (p q : Tree) × AreBelow i one other p q × DifferAt spare wrong place p q
