use Rattle.std.proofs.Common.{◌≡◌, drop, Some}
use Rattle.std.specs.Prelude.{slice_get}
use Rattle.anb_term.specs.Tree.{Tree}
use Rattle.anb_intern.specs.Nodes.{operands_at}
use Rattle.anb_reason.specs.Decided.{is_among}
use Rattle.anb_lack.proofs.roots.is_inside.Given as goal

abbrev pub invariant-loop-each : goal.invariant-loop-each
invariant-loop-each l = (u : Tree) → slice_get l.pool l.id.0 ≡ Some u → is_among (operands_at l.pool l.ids) u ≡ is_among (operands_at l.pool (drop l.each-index l.ids)) u
