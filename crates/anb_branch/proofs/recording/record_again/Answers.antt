use Rattle.std.proofs.Common.{◌++◌, sym, ◌∙◌}
use Rattle.anb_machine.specs.ByteRuns.{run_bytes}
use Rattle.anb_machine.specs.Machines.{gives}
use Rattle.anb_session.proofs.Faults.{wants_memory}
use Rattle.anb_session.proofs.Turning.{closes_wanting}
use Rattle.anb_branch.specs.Choices.{goes_behind}
use Rattle.anb_branch.proofs.Choosing.{waits_so, closes_again}
use Rattle.anb_branch.proofs.recording.record_again.Goals as goal

pub run_again-requires-clause-waits : goal.run_again-requires-clause-waits
run_again-requires-clause-waits g c = waits_so (run_bytes c.args.code.now c.args.init.now c.args.seed.now 0) (gives c.in-Ok.machine) c.args.choice.past.items c.in-Ok.ensures.run c.requires.waits

pub record_on-requires-clause-next : goal.record_on-requires-clause-next
record_on-requires-clause-next g c = (c.in-Ok-run_again.ensures.event, c.in-Ok-run_again.ensures.next)

pub returns-in-Ok-run_again-clause-closes : goal.returns-in-Ok-run_again-clause-closes
returns-in-Ok-run_again-clause-closes g c =
    closes_again (run_bytes c.args.code.now c.args.init.now c.args.seed.now 0) c.args.choice.past.items c.args.choice.arrival c.in-Ok.machine c.run_again.new.machine
    (g.W.Wire.state c.args.wire.now) (g.W.Wire.state c.record_on.new.wire) c.record_on.result.end c.in-Ok.ensures.run c.in-Ok-run_again.ensures c.record_on.ensures.closes

pub returns-in-Ok-run_again-clause-again : goal.returns-in-Ok-run_again-clause-again
returns-in-Ok-run_again-clause-again g c = λ some.
    let to = c.in-Ok-run_again.ensures in
    record {
      first = c.run_again.new.machine;
      last = c.record_on.new.machine;
      sent = to.sent;
      stands = record { comes = λ more. sym (c.in-Ok.ensures.run (c.args.choice.past.items ++ more)) ∙ to.stands.comes more };
      event = to.event;
      next = to.next;
      came = c.record_on.ensures.came some;
    }

pub returns-in-Err-clause-closes : goal.returns-in-Err-clause-closes
returns-in-Err-clause-closes g c = rw c.nothing-in-Err.ensures (closes_wanting (goes_behind (run_bytes c.args.code.now c.args.init.now c.args.seed.now 0) c.args.choice.past.items c.args.choice.arrival) (g.W.Wire.state c.args.wire.now))

pub returns-in_default-clause-closes : goal.returns-in_default-clause-closes
returns-in_default-clause-closes g c = rw c.nothing.ensures (closes_wanting (goes_behind (run_bytes c.args.code.now c.args.init.now c.args.seed.now 0) c.args.choice.past.items c.args.choice.arrival) (g.W.Wire.state c.args.wire.now))

pub returns-in_default-clause-faults : goal.returns-in_default-clause-faults
returns-in_default-clause-faults g c = rw c.nothing.ensures (wants_memory (g.W.Wire.state c.args.wire.now))

pub returns-in-Err-clause-faults : goal.returns-in-Err-clause-faults
returns-in-Err-clause-faults g c = rw c.nothing-in-Err.ensures (wants_memory (g.W.Wire.state c.args.wire.now))
