-- Patterns: terms over the names and over variables, which are atoms above the names.
use Rattle.std.specs.Prelude.{◌≡◌, ℕ, List, map, Bool}
use Rattle.anb_term.specs.declared.term.Op.{Op}
use Rattle.anb_term.specs.Tree.{Tree, trees_of, AreFormed}
use Rattle.anb_plays.specs.Plans.{Event}
use Rattle.anb_unify.specs.Substitutions.{put_in, KeepsNames}
use Rattle.anb_accept.specs.Taking.{Takes}

-- terms are put in the places of the variables
pub record IsInstance (names : ℕ) (patterns : List Tree) (arrivals : List Tree) : Type 0 where
  pub put : ℕ → Tree
  pub keeps : KeepsNames names put
  pub is : arrivals ≡ map (put_in put) patterns

-- What a role takes is exactly what these patterns have as instances.
pub record ArePatterns (has : Op → Bool) (names : ℕ) (plan : List Event) (patterns : List Tree) : Type 0 where
  pub formed : AreFormed has (trees_of patterns)
  pub instances : (arrivals : List Tree) → Takes has plan arrivals → IsInstance names patterns arrivals
  pub taken : (arrivals : List Tree) → IsInstance names patterns arrivals → Takes has plan arrivals
