-- Which arrivals a role takes, as a question about terms.
use Rattle.std.specs.Prelude.{◌≡◌, List, [], ◌∷◌, ◌++◌, length, Bool}
use Rattle.anb_term.specs.declared.term.Op.{Op}
use Rattle.anb_term.specs.Tree.{Tree}
use Rattle.anb_term.specs.FreeAlgebra.{terms_over}
use Rattle.anb_term.specs.Agree.{Agree}
use Rattle.anb_plays.specs.Plans.{Event, know, fresh, send, recv, known}
use Rattle.anb_plays.specs.Honest.{heard}

-- the terms of the labels that come after those of what is known: what is made and what is heard, in order
abbrev pub later : List Event → List Tree
later [] = []
later (know t ∷ es) = later es
later (fresh t ∷ es) = t ∷ later es
later (send t ∷ es) = later es
later (recv t ∷ es) = t ∷ later es

-- what these labels hold where these arrivals come: what is made is its own name
abbrev pub later_with : List Event → List Tree → List Tree
later_with [] arrivals = []
later_with (know t ∷ es) arrivals = later_with es arrivals
later_with (fresh t ∷ es) arrivals = t ∷ later_with es arrivals
later_with (send t ∷ es) arrivals = later_with es arrivals
later_with (recv t ∷ es) [] = []
later_with (recv t ∷ es) (x ∷ arrivals) = x ∷ later_with es arrivals

abbrev pub labels : List Event → List Tree
labels plan = known plan ++ later plan

abbrev pub labels_with : List Event → List Tree → List Tree
labels_with plan arrivals = known plan ++ later_with plan arrivals

-- A role takes these terms as its arrivals, one for each that it hears: any two recipes that the narration makes equal
-- give one defined term over them. The terms are over the names of the narration and any further ones.
pub record Takes (has : Op → Bool) (plan : List Event) (arrivals : List Tree) : Type 0 where
  pub count : length arrivals ≡ length (heard plan)
  pub agree : Agree (terms_over has) (labels plan) (labels_with plan arrivals)
