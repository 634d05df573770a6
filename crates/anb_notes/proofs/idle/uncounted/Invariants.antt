use Rattle.std.proofs.Common.{◌≡◌, ◌++◌, List, drop}
use Rattle.std.specs.Prelude.{filter}
use Rattle.anb_term.specs.Tree.{Tree}
use Rattle.anb_pattern.specs.Counts.{AreCounts}
use Rattle.anb_pattern.specs.Variables.{count_in_each}
use Rattle.anb_notes.specs.Idle.{stands_in_none}
use Rattle.anb_notes.proofs.idle.uncounted.Given as goal

abbrev pub invariant-loop-name : goal.invariant-loop-name
invariant-loop-name l = (patterns : List Tree) → AreCounts 0 (λ v. count_in_each v patterns) l.counts
    → l.out.items ++ filter (stands_in_none patterns) (drop l.name-index l.names) ≡ filter (stands_in_none patterns) l.names
