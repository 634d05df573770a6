use Rattle.std.proofs.Common.{◌≡◌, ◌+◌, ◌*◌, ◌++◌, map, drop}
use Rattle.anb_term.specs.View.{tree_of}
use Rattle.anb_intern.specs.Nodes.{operands_at}
use Rattle.anb_intern.proofs.pool.Pool.+read.Given as goal

abbrev pub decreases-term : goal.decreases-term
decreases-term l = 2 * l.id.0 + 1

abbrev pub decreases-terms : goal.decreases-terms
decreases-terms l = 2 * l.end.0

abbrev pub invariant-terms-loop-id : goal.invariant-terms-loop-id
invariant-terms-loop-id l = map tree_of l.all.items ++ operands_at l.self (drop l.id-index l.ids) ≡ operands_at l.self l.ids
