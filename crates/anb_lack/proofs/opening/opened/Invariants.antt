use Rattle.std.proofs.Common.{◌≡◌, ◌++◌, Bool, drop, length, map}
use Rattle.std.specs.List.{flat_map}
use Rattle.anb_term.specs.Tree.{Tree}
use Rattle.anb_intern.specs.Nodes.{operands_at, AreUnder}
use Rattle.anb_lack.specs.Opened.{comes_out}
use Rattle.anb_lack.proofs.opening.opened.Given as goal

abbrev pub invariant-loop-id : goal.invariant-loop-id
invariant-loop-id l = record {
  under : AreUnder (length l.pool) l.out.items;
  out : (has : Tree → Bool) → l.flags ≡ map has l.pool → operands_at l.pool l.out.items ++ flat_map (comes_out has) (operands_at l.pool (drop l.id-index l.ids)) ≡ flat_map (comes_out has) (operands_at l.pool l.ids);
}
