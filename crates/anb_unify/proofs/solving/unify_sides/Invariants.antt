use Rattle.std.proofs.Common.{◌≡◌, ℕ, ◌+◌, map, take}
use Rattle.std.specs.List.{AllByRecursion}
use Rattle.anb_term.specs.Tree.{Tree, leaf}
use Rattle.anb_unify.specs.Substitutions.{put_in}
use Rattle.anb_unify.specs.Equations.{EquationValue, IsSolution}
use Rattle.anb_unify.specs.Views.{equation_value}
use Rattle.anb_unify.specs.Classes.{AreClasses, Respects, AreClosed}
use Rattle.anb_unify.proofs.solving.unify_sides.Given as goal

abbrev pub invariant-loop-i : goal.invariant-loop-i
invariant-loop-i l = record {
  classes : AreClasses l.names l.pool l.parents.items;
  same : (f : Tree → Tree) → Respects l.pool f l.parents.items → AllByRecursion (λ (q : EquationValue). f (leaf (l.names + q.variable)) ≡ f q.term) (take l.i (map equation_value l.equations));
  closed : (f : Tree → Tree) → Respects l.pool f l.parents.items → AreClosed l.names l.pool f l.parents.items;
  general : (put : ℕ → Tree) → IsSolution l.names (map equation_value l.equations) put → Respects l.pool (put_in put) l.parents.items;
}
