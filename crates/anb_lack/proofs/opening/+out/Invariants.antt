use Rattle.std.proofs.Common.{◌≡◌, ◌+◌, ◌*◌, ◌++◌, Bool, drop, length, map}
use Rattle.std.specs.List.{flat_map}
use Rattle.anb_term.specs.Tree.{Tree}
use Rattle.anb_intern.specs.Nodes.{operands_at, AreUnder}
use Rattle.anb_lack.specs.Opened.{comes_out}
use Rattle.anb_lack.proofs.opening.+out.Given as goal

abbrev pub decreases-put_out : goal.decreases-put_out
decreases-put_out l = 2 * l.id.0 + 1

abbrev pub decreases-put_all_out : goal.decreases-put_all_out
decreases-put_all_out l = 2 * l.end.0

abbrev pub invariant-put_all_out-loop-id : goal.invariant-put_all_out-loop-id
invariant-put_all_out-loop-id l = record {
  under : AreUnder (length l.pool) l.out.items;
  out : (has : Tree → Bool) → l.flags ≡ map has l.pool → operands_at l.pool l.out.items ++ flat_map (comes_out has) (operands_at l.pool (drop l.id-index l.ids))
      ≡ operands_at l.pool l.initial.out.items ++ flat_map (comes_out has) (operands_at l.pool l.ids);
}
