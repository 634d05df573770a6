use Rattle.std.proofs.Common.{◌≡◌, ◌+◌, ◌++◌, ℕ, List, map, drop}
use Rattle.anb_term.specs.Tree.{Tree}
use Rattle.anb_term.specs.View.{tree_of}
use Rattle.anb_pattern.specs.Variables.{count_in_each, picked_from}
use Rattle.anb_pattern.specs.Counts.{AreCounts, stands}
use Rattle.anb_pattern.proofs.counts.picked.Given as goal

abbrev pub invariant-loop-i : goal.invariant-loop-i
invariant-loop-i l = (names : ℕ) (patterns : List Tree) → AreCounts names (λ v. count_in_each v patterns) l.counts
    → map tree_of l.out.items ++ picked_from (stands patterns l.once) (names + l.i) (map tree_of (drop l.i l.terms)) ≡ picked_from (stands patterns l.once) names (map tree_of l.terms)
