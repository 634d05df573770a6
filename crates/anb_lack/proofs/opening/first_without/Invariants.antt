use Rattle.std.proofs.Common.{◌≡◌, List, drop, map}
use Rattle.anb_term.specs.Tree.{Tree}
use Rattle.anb_intern.specs.Nodes.{operands_at}
use Rattle.anb_reason.specs.Decided.{composes}
use Rattle.anb_lack.specs.Opened.{first_lacking}
use Rattle.anb_lack.proofs.opening.first_without.Given as goal

abbrev pub invariant-loop-id : goal.invariant-loop-id
invariant-loop-id l = (S : List Tree) (t : Tree) → l.flags ≡ map (composes S) l.pool → first_lacking S t (operands_at l.pool l.ids) ≡ first_lacking S t (operands_at l.pool (drop l.id-index l.ids))
