use Rattle.std.proofs.Common.{map, take}
use Rattle.anb_unify.specs.Views.{equation_value}
use Rattle.anb_unify.specs.Solving.{AreAt, terms_of_equations}
use Rattle.anb_unify.specs.Growing.{HasGrown}
use Rattle.anb_unify.proofs.solving.put_sides.Given as goal

abbrev pub invariant-loop-equation : goal.invariant-loop-equation
invariant-loop-equation l = record {
  at : AreAt l.pool l.ids.items (terms_of_equations (map equation_value (take l.equation-index l.equations)));
  grown : HasGrown l.initial.pool l.pool;
}
