-- The recipes of a code's registers.
use Rattle.std.specs.Prelude.{ℕ, ◌+◌, List, [], ◌∷◌, ◌++◌, length, count_by, Bool, true, false}
use Rattle.anb_term.specs.Value.{RecipeTree, label}
use Rattle.anb_term.specs.Tree.{Tree}
use Rattle.anb_plays.specs.Plans.{Event, know, fresh, send, recv, known}
use Rattle.anb_plays.specs.Codes.{Act, takes, draws, receives, sends, works, writes}

abbrev pub is_take : Act → Bool
is_take takes = true
is_take draws = false
is_take receives = false
is_take (sends r) = false
is_take (works w) = false

-- those that these acts write, behind registers with these recipes and after so many labels. The initial
-- values are the first labels; a draw and a receive have the next label each
abbrev pub recipes_after : List Act → List RecipeTree → ℕ → List RecipeTree
recipes_after [] regs n = regs
recipes_after (takes ∷ acts) regs n = recipes_after acts (regs ++ label (length regs) ∷ []) n
recipes_after (draws ∷ acts) regs n = recipes_after acts (regs ++ label n ∷ []) (n + 1)
recipes_after (receives ∷ acts) regs n = recipes_after acts (regs ++ label n ∷ []) (n + 1)
recipes_after (sends r ∷ acts) regs n = recipes_after acts regs n
recipes_after (works w ∷ acts) regs n = recipes_after acts (regs ++ writes regs w) n

abbrev pub register_recipes : List Act → List RecipeTree
register_recipes acts = recipes_after acts [] (count_by is_take acts)

-- the terms of what is made and received, in order
abbrev pub later_labels : List Event → List Tree
later_labels [] = []
later_labels (know t ∷ es) = later_labels es
later_labels (fresh t ∷ es) = t ∷ later_labels es
later_labels (send t ∷ es) = later_labels es
later_labels (recv t ∷ es) = t ∷ later_labels es

-- those of all labels: first what is known
abbrev pub all_labels : List Event → List Tree
all_labels events = known events ++ later_labels events
