use Rattle.std.proofs.Common.{◌≡◌, ◌++◌, List, drop, map}
use Rattle.std.specs.List.{AllByRecursion}
use Rattle.anb_term.specs.Tree.{Tree}
use Rattle.anb_intern.specs.Nodes.{operands_at}
use Rattle.anb_reason.specs.Decided.{composes}
use Rattle.anb_lack.specs.Rooted.{locked_values, HasInside}
use Rattle.anb_lack.proofs.Locking.{locked}
use Rattle.anb_lack.proofs.roots.put_locked.Given as goal

abbrev pub invariant-loop-id : goal.invariant-loop-id
invariant-loop-id l = record {
  inside : AllByRecursion (HasInside l.pool) l.out.items;
  locks : (S : List Tree) → l.flags ≡ map (composes S) l.pool → locked_values l.out.items ++ locked S l.from (operands_at l.pool (drop l.id-index l.ids)) ≡ locked_values l.initial.out.items ++ locked S l.from (operands_at l.pool l.ids);
}
