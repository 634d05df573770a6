-- What holds of the runs of codes in terms, and of cases that are found by solving.
use Rattle.std.specs.Prelude.{◌≡◌, ◌≢◌, ◌↔◌, ℕ, ◌+◌, ◌<◌, List, [], ◌∷◌, ◌++◌, length, map, Bool}
use Rattle.anb_term.specs.declared.term.Op.{Op}
use Rattle.anb_term.specs.Tree.{Tree, trees_of, AreFormed}
use Rattle.anb_term.specs.FreeAlgebra.{terms_over}
use Rattle.anb_plays.specs.Plans.{Event}
use Rattle.anb_plays.specs.Codes.{Act}
use Rattle.anb_plays.specs.Runs.{run}
use Rattle.anb_plays.specs.Exec.{HasTakes}
use Rattle.anb_plays.specs.Honest.{heard}
use Rattle.anb_unify.specs.Substitutions.{put_in, IsNamed, AreNamed}
use Rattle.anb_unify.specs.Equations.{IsSolution, atoms_of}
use Rattle.anb_probe.specs.Cases.{IsOver, IsCase, IsImplied}
use Rattle.anb_distinguish.specs.Equations.{CanUndoAll, AreSolved}
use Rattle.anb_distinguish.specs.Finding.{IsOverNames, IsCheck, less_equations, received_in, HasPatterns, spared, case_with}

-- Over these arrivals a code goes on to its end exactly where they solve its equations. What it takes and draws are terms
-- over the names, and what arrives are any terms.
abbrev pub RunsAreSolutions : Type 0
RunsAreSolutions = (has : Op → Bool) (names : ℕ) (init : List Tree) (draw : ℕ → Tree) (code : List Act) (arrivals : List Tree)
    → HasTakes has code 0 (length init) → CanUndoAll code → AreNamed names (trees_of init) → ((i : ℕ) → IsNamed names (draw i))
    → IsOver (run (terms_over has) draw code init arrivals) ↔ AreSolved names init draw code arrivals

-- Where the two sides of a check are one term in the most general solution of all else, all else implies the check.
abbrev pub SameSidesAreImplied : Type 0
SameSidesAreImplied = (has : Op → Bool) (names : ℕ) (plan : List Event) (code : List Act) (check a b : ℕ) (arrivals : List Tree) (one : Tree)
    → IsOverNames has names plan code → IsCheck code check a b → HasPatterns names plan code check a b arrivals one one → IsImplied has plan code check

-- The terms of an honest run: they solve all equations but the check's, and are the narrated ones at what is received.
pub record IsHonest (has : Op → Bool) (names : ℕ) (plan : List Event) (code : List Act) (check a b : ℕ) (honest : ℕ → Tree) : Type 0 where
  pub solution : IsSolution (names + 1) (less_equations names plan code check) honest
  pub narrated : map honest (atoms_of (names + 1) (received_in plan code)) ≡ heard plan
  pub named : AreNamed names (trees_of (heard plan))
  pub formed : AreFormed has (trees_of (map honest (atoms_of (names + 1) (received_in plan code ++ a ∷ b ∷ []))))

-- Where they are two terms, and the spare name in the place of a variable tells them apart, that makes a case: what is
-- received is built anew of it, and all else but the check still holds.
abbrev pub TwoSidesMakeACase : Type 0
TwoSidesMakeACase = (has : Op → Bool) (names : ℕ) (plan : List Event) (code : List Act) (check a b : ℕ) (arrivals : List Tree) (one other : Tree) (honest : ℕ → Tree) (v : ℕ)
    → IsOverNames has names plan code → IsCheck code check a b → HasPatterns names plan code check a b arrivals one other → IsHonest has names plan code check a b honest
    → names < v → put_in (spared names v honest) one ≢ put_in (spared names v honest) other
    → IsCase has names plan code check (case_with names v honest arrivals one other)
