-- A role's checks as equations between terms, whose atoms are the names and, above them, a variable for each entry.
use Rattle.std.specs.Prelude.{ℕ, ◌+◌, ◌-◌, List, [], ◌∷◌, ◌++◌, map, Bool, true, false, not, Option, Some, None, slice_get, if◌then◌else◌}
use Rattle.std.specs.List.{range_with_len}
use Rattle.anb_term.specs.Operator.{arity, keys}
use Rattle.anb_term.specs.Tree.{Tree, leaf, node, trees_of}
use Rattle.anb_term.specs.View.{tree_of}
use Rattle.anb_close.specs.MadeView.{made_tree}
use Rattle.anb_close.specs.declared.entry.Entry.{Entry}
use Rattle.anb_close.specs.declared.entry.Origin.{Origin}
use Rattle.anb_close.specs.declared.entry.Origin.TheVariants.{Label, Part}
use Rattle.anb_basis.specs.declared.check.Check.{Check}
use Rattle.anb_basis.specs.declared.check.Check.TheVariants.{Open, Equal}
use Rattle.anb_plays.specs.Plans.{Event, know, fresh, send, recv, known}
use Rattle.anb_unify.specs.Substitutions.{put_in}
use Rattle.anb_unify.specs.Equations.{EquationValue}

-- whether a label is heard; one that isn't there isn't
abbrev pub heard_at : Option Bool → Bool
heard_at None = false
heard_at (Some b) = b

abbrev pub own_at : Option Bool → Bool
own_at None = false
own_at (Some b) = not b

abbrev pub is_heard : List Bool → Origin → Bool
is_heard heard (Label n) = heard_at (slice_get heard n)
is_heard heard (Part o j ks i) = false

abbrev pub is_own : List Bool → Origin → Bool
is_own heard (Label n) = own_at (slice_get heard n)
is_own heard (Part o j ks i) = false

module _ (names : ℕ) where
  abbrev pub entry_variable : ℕ → Tree
  entry_variable i = leaf (names + i)

  -- a composition over the variables of entries
  abbrev pub over_entries : Tree → Tree
  over_entries m = put_in entry_variable m

  -- the variables of so many entries from one on
  abbrev pub entries_from : ℕ → ℕ → List Tree
  entries_from first count = map (λ j. leaf (names + (first + j))) (range_with_len 0 count)

  abbrev pub equation_of : Check → EquationValue
  equation_of (Open x) = record { variable = x.of; term = node x.op (trees_of (map over_entries x.keys ++ entries_from x.first (arity x.op - keys x.op))) }
  equation_of (Equal i w) = record { variable = i; term = over_entries (made_tree w) }

-- the labels that aren't heard are their own terms; the entries stand from number k on
abbrev pub own_equations : List Bool → ℕ → List Entry → List EquationValue
own_equations heard k [] = []
own_equations heard k (e ∷ es) =
    (if is_own heard e.origin then record { variable = k; term = tree_of e.term } ∷ [] else []) ++ own_equations heard (k + 1) es

abbrev pub equations_of : ℕ → List Bool → List Entry → List Check → List EquationValue
equations_of names heard es cs = own_equations heard 0 es ++ map (equation_of names) cs

-- the entries of the labels that are heard, in order
abbrev pub heard_entries : List Bool → ℕ → List Entry → List ℕ
heard_entries heard k [] = []
heard_entries heard k (e ∷ es) = (if is_heard heard e.origin then k ∷ [] else []) ++ heard_entries heard (k + 1) es

-- and their variables
abbrev pub heard_variables : ℕ → List Bool → ℕ → List Entry → List ℕ
heard_variables names heard k [] = []
heard_variables names heard k (e ∷ es) = (if is_heard heard e.origin then (names + k) ∷ [] else []) ++ heard_variables names heard (k + 1) es

-- which of a plan's labels are heard
abbrev pub later_heard : List Event → List Bool
later_heard [] = []
later_heard (know t ∷ es) = later_heard es
later_heard (fresh t ∷ es) = false ∷ later_heard es
later_heard (send t ∷ es) = later_heard es
later_heard (recv t ∷ es) = true ∷ later_heard es

abbrev pub heard_labels : List Event → List Bool
heard_labels plan = map (λ t. false) (known plan) ++ later_heard plan
