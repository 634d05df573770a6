-- Cases by the most general solution of the equations of a code less a check.
use Rattle.std.specs.Prelude.{◌≡◌, ℕ, ◌+◌, ◌==◌, List, [], ◌∷◌, ◌++◌, length, map, Bool, Some, slice_get, if◌then◌else◌}
use Rattle.anb_term.specs.declared.term.Op.{Op}
use Rattle.anb_term.specs.Tree.{Tree, leaf, trees_of}
use Rattle.anb_plays.specs.Plans.{Event, known}
use Rattle.anb_plays.specs.Codes.{Act, works, equal}
use Rattle.anb_plays.specs.Exec.{HasTakes}
use Rattle.anb_plays.specs.Honest.{made}
use Rattle.anb_unify.specs.Substitutions.{put_in, AreNamed}
use Rattle.anb_unify.specs.Equations.{EquationValue, IsMostGeneral, atoms_of}
use Rattle.anb_probe.specs.Cases.{less, drawn, CaseValue}
use Rattle.anb_distinguish.specs.Equations.{equations_of, received_from, CanUndoAll}

-- a code that takes all that is known first, reads registers that were written, and undoes what can be undone; and what is
-- known and made are terms over the names
pub record IsOverNames (has : Op → Bool) (names : ℕ) (plan : List Event) (code : List Act) : Type 0 where
  pub taking : HasTakes has code 0 (length (known plan))
  pub can : CanUndoAll code
  pub known : AreNamed names (trees_of (known plan))
  pub made : AreNamed names (trees_of (made plan))

-- the instruction of this number compares these two registers
pub record IsCheck (code : List Act) (check a b : ℕ) : Type 0 where
  pub at : ℕ
  pub counts : check ≡ at + 1
  pub here : slice_get code at ≡ Some (works (equal a b))

-- The equations of a code less a check. The spare name is one of the names here, since it is no variable.
abbrev pub less_equations : ℕ → List Event → List Act → ℕ → List EquationValue
less_equations names plan code check = equations_of (names + 1) (known plan) (drawn plan) (less check code)

abbrev pub received_in : List Event → List Act → List ℕ
received_in plan code = received_from code (length (known plan))

-- What their most general solution has: at what is received, and at the two registers that the check compares.
pub record HasPatterns (names : ℕ) (plan : List Event) (code : List Act) (check a b : ℕ) (arrivals : List Tree) (one other : Tree) : Type 0 where
  pub count : length arrivals ≡ length (received_in plan code)
  pub are : IsMostGeneral (names + 1) (less_equations names plan code check) (atoms_of (names + 1) (received_in plan code ++ a ∷ b ∷ [])) (arrivals ++ one ∷ other ∷ [])

-- the spare name in the place of one variable, and the honest terms in the places of all others
abbrev pub spared : ℕ → ℕ → (ℕ → Tree) → ℕ → Tree
spared names v honest n = if n == v then leaf names else honest n

abbrev pub case_with : ℕ → ℕ → (ℕ → Tree) → List Tree → Tree → Tree → CaseValue
case_with names v honest arrivals one other = record {
  arrivals = map (put_in (spared names v honest)) arrivals;
  wrong = honest v;
  sides = record { one = put_in (spared names v honest) one; other = put_in (spared names v honest) other };
}
