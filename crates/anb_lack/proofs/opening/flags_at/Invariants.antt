use Rattle.std.proofs.Common.{◌≡◌, Bool, map, take}
use Rattle.anb_term.specs.Tree.{Tree}
use Rattle.anb_intern.specs.Nodes.{operands_at}
use Rattle.anb_lack.proofs.opening.flags_at.Given as goal

abbrev pub invariant-loop-id : goal.invariant-loop-id
invariant-loop-id l = (P : Tree → Bool) → l.flags ≡ map P l.pool → l.out.items ≡ map P (operands_at l.pool (take l.id-index l.ids))
