use Rattle.std.proofs.Common.{◌≡◌, ◌++◌, List, drop, map}
use Rattle.std.specs.List.{AllByRecursion}
use Rattle.anb_term.specs.Tree.{Tree}
use Rattle.anb_protocol.specs.Views.{plan_event}
use Rattle.anb_reason.specs.Decided.{composes}
use Rattle.anb_lack.specs.Rooted.{locked_values, HasInside}
use Rattle.anb_lack.specs.Roots.{locks}
use Rattle.anb_lack.proofs.roots.locks.Given as goal

abbrev pub invariant-loop-i : goal.invariant-loop-i
invariant-loop-i l = record {
  inside : AllByRecursion (HasInside l.pool) l.out.items;
  locks : (S : List Tree) → l.flags ≡ map (composes S) l.pool → locked_values l.out.items ++ locks S (map plan_event (drop l.i l.events)) ≡ locks S (map plan_event l.events);
}
