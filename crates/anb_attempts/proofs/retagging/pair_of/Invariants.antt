use Rattle.std.proofs.Common.{◌≡◌, ◌∷◌, map, replicate}
use Rattle.anb_term.specs.View.{tree_of}
use Rattle.anb_attempts.proofs.retagging.pair_of.Given as goal

abbrev pub invariant-loop : goal.invariant-loop
invariant-loop l = map tree_of l.operands.items ≡ tree_of l.closed ∷ replicate l.counter (tree_of l.key)
