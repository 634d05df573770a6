use Rattle.std.proofs.Common.{◌≡◌, ◌+◌, ◌*◌, ◌++◌, drop, length}
use Rattle.anb_term.specs.Tree.{trees_of}
use Rattle.anb_intern.specs.Nodes.{operands_at, AreUnder}
use Rattle.anb_lack.specs.Parts.{parts_of_all}
use Rattle.anb_lack.proofs.parts.+parts.Given as goal

abbrev pub decreases-put_parts : goal.decreases-put_parts
decreases-put_parts l = 2 * l.id.0 + 1

abbrev pub decreases-put_all_parts : goal.decreases-put_all_parts
decreases-put_all_parts l = 2 * l.end.0

abbrev pub invariant-put_all_parts-loop-id : goal.invariant-put_all_parts-loop-id
invariant-put_all_parts-loop-id l = record {
  under : AreUnder (length l.pool) l.out.items;
  parts : operands_at l.pool l.out.items ++ parts_of_all (trees_of (operands_at l.pool (drop l.id-index l.ids)))
      ≡ operands_at l.pool l.initial.out.items ++ parts_of_all (trees_of (operands_at l.pool l.ids));
}
