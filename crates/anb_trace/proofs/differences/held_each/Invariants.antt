use Rattle.std.proofs.Common.{◌≡◌, ◌++◌, drop, map, option_map}
use Rattle.anb_term.specs.View.{tree_of}
use Rattle.anb_trace.specs.Differences.{held_each}
use Rattle.anb_trace.proofs.differences.held_each.Given as goal

abbrev pub invariant-loop-key : goal.invariant-loop-key
invariant-loop-key l =
    option_map (λ vs. l.values.items ++ vs) (held_each (map tree_of l.terms) l.registers (map tree_of (drop l.key-index l.keys)))
    ≡ held_each (map tree_of l.terms) l.registers (map tree_of l.keys)
