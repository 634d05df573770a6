use Rattle.std.proofs.Common.{subst, arith}
use Rattle.anb_machine.specs.Standing.{IsNarrowTurn, StepsTo}
use Rattle.anb_machine.proofs.Gone.{narrow_of}
use Rattle.anb_machine.proofs.Steps.{goes_on, same_on, turns_on}
use Rattle.anb_machine.proofs.state.RunState.advance.Goals as goal

pub loop-turn-preserved : goal.loop-turn-preserved
loop-turn-preserved c =
    let e = c.in-Ok-None.ensures in
    let i = c.loop-turn.invariant in
    let step = subst (StepsTo c.loop-turn.self c.step.new.self) c.in-Ok-None.field-0-is e.stepped in
    record {
      kept = e.kept;
      lean = e.lean;
      same = same_on c.args.self.now c.loop-turn.self c.step.new.self i.same e.same;
      on = omega (arith, i.on, step.1);
      so_far = goes_on c.args.self.now c.loop-turn.self c.step.new.self i.so_far step.0;
    }

pub returns-in-Ok-Some-clause-turned : goal.returns-in-Ok-Some-clause-turned
returns-in-Ok-Some-clause-turned c =
    let i = c.loop-turn.invariant in
    turns_on c.args.self.now c.loop-turn.self c.step.new.self c.in-Ok-Some.turn i.so_far i.on
    (subst (StepsTo c.loop-turn.self c.step.new.self) c.in-Ok-Some.field-0-is c.in-Ok-Some.ensures.stepped)

pub returns-in-Ok-Some-clause-narrow : goal.returns-in-Ok-Some-clause-narrow
returns-in-Ok-Some-clause-narrow c = narrow_of c.in-Ok-Some.turn (subst IsNarrowTurn c.in-Ok-Some.field-0-is c.in-Ok-Some.ensures.narrow)
