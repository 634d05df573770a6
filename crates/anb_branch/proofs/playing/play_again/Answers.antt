use Rattle.anb_machine.specs.ByteRuns.{run_bytes}
use Rattle.anb_machine.specs.Machines.{gives}
use Rattle.anb_session.proofs.Faults.{wants_memory}
use Rattle.anb_session.proofs.Turning.{closes_wanting}
use Rattle.anb_branch.specs.Choices.{goes_behind}
use Rattle.anb_branch.proofs.Choosing.{waits_so, closes_again}
use Rattle.anb_branch.proofs.playing.play_again.Goals as goal

pub run_again-requires-clause-waits : goal.run_again-requires-clause-waits
run_again-requires-clause-waits g c = waits_so (run_bytes c.args.code.now c.args.init.now c.args.seed.now 0) (gives c.in-Ok.machine) c.args.choice.past.items c.in-Ok.ensures.run c.requires.waits

pub returns-in-Ok-run_again-clause-closes : goal.returns-in-Ok-run_again-clause-closes
returns-in-Ok-run_again-clause-closes g c =
    closes_again (run_bytes c.args.code.now c.args.init.now c.args.seed.now 0) c.args.choice.past.items c.args.choice.arrival c.in-Ok.machine c.run_again.new.machine
    (g.W.Wire.state c.args.wire.now) (g.W.Wire.state c.play_on.new.wire) c.play_on.result c.in-Ok.ensures.run c.in-Ok-run_again.ensures c.play_on.ensures.closes

pub returns-in-Err-clause-closes : goal.returns-in-Err-clause-closes
returns-in-Err-clause-closes g c = closes_wanting (goes_behind (run_bytes c.args.code.now c.args.init.now c.args.seed.now 0) c.args.choice.past.items c.args.choice.arrival) (g.W.Wire.state c.args.wire.now)

pub returns-in_default-clause-closes : goal.returns-in_default-clause-closes
returns-in_default-clause-closes g c = closes_wanting (goes_behind (run_bytes c.args.code.now c.args.init.now c.args.seed.now 0) c.args.choice.past.items c.args.choice.arrival) (g.W.Wire.state c.args.wire.now)

pub returns-in_default-clause-faults : goal.returns-in_default-clause-faults
returns-in_default-clause-faults g c = wants_memory (g.W.Wire.state c.args.wire.now)

pub returns-in-Err-clause-faults : goal.returns-in-Err-clause-faults
returns-in-Err-clause-faults g c = wants_memory (g.W.Wire.state c.args.wire.now)

pub play_on-requires-clause-next : goal.play_on-requires-clause-next
play_on-requires-clause-next g c = (c.in-Ok-run_again.ensures.event, c.in-Ok-run_again.ensures.next)
