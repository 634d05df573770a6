-- One more equation.
use Rattle.std.proofs.Common.{◌≡◌, ◌+◌, ◌<◌, length, map, get_or, arith, subst}
use Rattle.std.specs.List.{AllByRecursion}
use Rattle.std.proofs.lemmas.List.{length-map}
use Rattle.anb_lemmas.proofs.Lists.{item_at, got_within}
use Rattle.anb_term.specs.Tree.{leaf}
use Rattle.anb_intern.specs.declared.node.NodeId.{NodeId}
use Rattle.anb_unify.specs.Equations.{EquationValue}
use Rattle.anb_unify.specs.Views.{equation_value}
use Rattle.anb_unify.proofs.Steps.{solved_more, taken_all}
use Rattle.anb_unify.proofs.Sides.{variable_within, variables_within, sides_within, variable_here, side_here, narrated_here, same_here, general_here, own_value_at}
use Rattle.anb_unify.proofs.solving.unify_sides.Goals as goal

pub loop-i-init : goal.loop-i-init
loop-i-init c = record {
  classes = c.requires.classes;
  same = λ f h. tt;
  closed = c.requires.solved.closed;
  general = λ put s. c.requires.solved.general put (record { keeps = s.keeps; solves = tt });
}

pub bounds-narrated-variable : goal.bounds-narrated-variable
bounds-narrated-variable c = variable_within c.args.names c.args.pool.now c.args.narrated.now c.args.variables.now c.args.sides.now c.args.equations.now c.requires.variables c.requires.sides c.requires.equations c.loop-i.i c.index-equations-i.result (let within : c.loop-i.i < length c.args.equations.now = omega arith in item_at c.args.equations.now c.loop-i.i c.index-equations-i.result within c.index-equations-i.is)

pub bounds-variables-variable : goal.bounds-variables-variable
bounds-variables-variable c = variables_within c.args.names c.args.pool.now c.args.narrated.now c.args.variables.now c.args.sides.now c.args.equations.now c.requires.variables c.requires.sides c.requires.equations c.loop-i.i c.index-equations-i.result (let within : c.loop-i.i < length c.args.equations.now = omega arith in item_at c.args.equations.now c.loop-i.i c.index-equations-i.result within c.index-equations-i.is)

pub bounds-sides-i : goal.bounds-sides-i
bounds-sides-i c = sides_within c.args.names c.args.pool.now c.args.narrated.now c.args.variables.now c.args.sides.now c.args.equations.now c.requires.variables c.requires.sides c.requires.equations c.loop-i.i c.index-equations-i.result (let within : c.loop-i.i < length c.args.equations.now = omega arith in item_at c.args.equations.now c.loop-i.i c.index-equations-i.result within c.index-equations-i.is)

pub unify-requires : goal.unify-requires
unify-requires c =
    let at = (let within : c.loop-i.i < length c.args.equations.now = omega arith in item_at c.args.equations.now c.loop-i.i c.index-equations-i.result within c.index-equations-i.is) in
    let d : NodeId = record { 0 = 0 } in
    let within = variable_within c.args.names c.args.pool.now c.args.narrated.now c.args.variables.now c.args.sides.now c.args.equations.now c.requires.variables c.requires.sides c.requires.equations c.loop-i.i c.index-equations-i.result at in
    let e = item_at c.args.narrated.now c.index-equations-i.result.variable c.index-narrated-variable.result within c.index-narrated-variable.is in
    record {
      one_within = got_within c.args.pool.now (get_or c.args.variables.now c.index-equations-i.result.variable d).0 _ (variable_here c.args.names c.args.pool.now c.args.narrated.now c.args.variables.now c.args.sides.now c.args.equations.now c.requires.variables c.requires.sides c.requires.equations c.loop-i.i c.index-equations-i.result at d);
      other_within = got_within c.args.pool.now (get_or c.args.sides.now c.loop-i.i d).0 _ (side_here c.args.names c.args.pool.now c.args.narrated.now c.args.variables.now c.args.sides.now c.args.equations.now c.requires.variables c.requires.sides c.requires.equations c.loop-i.i c.index-equations-i.result at d);
      classes = c.loop-i.invariant.classes;
      narrated = narrated_here c.args.names c.args.pool.now c.args.narrated.now c.args.variables.now c.args.sides.now c.args.equations.now c.requires.variables c.requires.sides c.requires.equations c.loop-i.i c.index-equations-i.result at d c.requires.narrated c.loop-i.parents.items c.index-narrated-variable.result e (c.loop-i.invariant.general c.requires.narrated.put c.requires.narrated.solution);
    }

pub loop-i-preserved : goal.loop-i-preserved
loop-i-preserved c =
    let at = (let within : c.loop-i.i < length c.args.equations.now = omega arith in item_at c.args.equations.now c.loop-i.i c.index-equations-i.result within c.index-equations-i.is) in
    let d : NodeId = record { 0 = 0 } in
    let one = c.unify.ensures.one in
    let before = c.loop-i.invariant in
    record {
      classes = c.unify.ensures.classes;
      same = λ f h. solved_more c.args.names f (map equation_value c.args.equations.now) c.loop-i.i (equation_value c.index-equations-i.result) (before.same f (one.back f h)) (own_value_at c.args.equations.now c.loop-i.i c.index-equations-i.result at)
          (same_here c.args.names c.args.pool.now c.args.narrated.now c.args.variables.now c.args.sides.now c.args.equations.now c.requires.variables c.requires.sides c.requires.equations c.loop-i.i c.index-equations-i.result at d f (one.same f h));
      closed = λ f h. one.closed f h (before.closed f (one.back f h));
      general = λ put s. one.general put (before.general put s) (general_here c.args.names c.args.pool.now c.args.narrated.now c.args.variables.now c.args.sides.now c.args.equations.now c.requires.variables c.requires.sides c.requires.equations c.loop-i.i c.index-equations-i.result at d put s);
    }

pub returns-clause-solved : goal.returns-clause-solved
returns-clause-solved c = record {
  same = λ f h. subst (AllByRecursion (λ (q : EquationValue). f (leaf (c.args.names + q.variable)) ≡ f q.term)) (taken_all (map equation_value c.args.equations.now) c.loop-i.i (omega (arith, length-map c.args.equations.now equation_value))) (c.loop-i.invariant.same f h);
  closed = c.loop-i.invariant.closed;
  general = c.loop-i.invariant.general;
}
