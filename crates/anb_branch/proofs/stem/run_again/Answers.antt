use Rattle.anb_branch.proofs.Again.{again_saying, again_hearing, short_rest}
use Rattle.anb_branch.proofs.stem.run_again.Goals.{in-Message, in-Wants+in-Some}
use Rattle.anb_branch.proofs.stem.run_again.Goals as goal

pub turns-preserved-after-advance : goal.turns-preserved-after-advance
turns-preserved-after-advance c = elim c.match-advance.branch [
  | in-Message w ↦
      rw (w.machine-is, w.arrivals-is) (record {
        again = again_saying c.args.machine.now c.turns.machine c.advance.new.self c.args.past.items c.turns.arrivals.rest.items w.in-Message.field-0
            w.in-Message.ensures.turned.0 c.turns.invariant.again;
        short = c.turns.invariant.short;
      })
  | in-Wants+in-Some w ↦
      rw (w.machine-is, w.arrivals-is) (record {
        again = again_hearing c.args.machine.now c.turns.machine c.advance.new.self w.arrive.new.self c.args.past.items c.turns.arrivals.rest.items w.next.new.self.rest.items w.in-Some.arrival
            w.in-Wants.ensures.turned.0 w.arrive.ensures.gives w.in-Some.ensures.items c.turns.invariant.again;
        short = short_rest c.turns.arrivals.rest.items w.next.new.self.rest.items w.in-Some.arrival w.in-Some.ensures.items c.turns.invariant.short;
      })
]

pub turns-preserved : goal.turns-preserved
turns-preserved c = elim c.match-advance.branch [
  | in-Message w ↦
      rw (w.machine-is, w.arrivals-is) (record {
        again = again_saying c.args.machine.now c.turns.machine c.advance.new.self c.args.past.items c.turns.arrivals.rest.items w.in-Message.field-0
            w.in-Message.ensures.turned.0 c.turns.invariant.again;
        short = c.turns.invariant.short;
      })
  | in-Wants+in-Some w ↦
      rw (w.machine-is, w.arrivals-is) (record {
        again = again_hearing c.args.machine.now c.turns.machine c.advance.new.self w.arrive.new.self c.args.past.items c.turns.arrivals.rest.items w.next.new.self.rest.items w.in-Some.arrival
            w.in-Wants.ensures.turned.0 w.arrive.ensures.gives w.in-Some.ensures.items c.turns.invariant.again;
        short = short_rest c.turns.arrivals.rest.items w.next.new.self.rest.items w.in-Some.arrival w.in-Some.ensures.items c.turns.invariant.short;
      })
]
