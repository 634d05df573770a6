use Rattle.std.proofs.Common.{ℕ, List, ap}
use Rattle.anb_plays.specs.Runs.{without_place}
use Rattle.anb_machine.specs.ByteRuns.{run_bytes}
use Rattle.anb_machine.specs.Machines.{gives}
use Rattle.anb_session.proofs.Faults.{wants_memory}
use Rattle.anb_session.proofs.Turning.{closes_wanting}
use Rattle.anb_branch.proofs.Turns.{closes_as}
use Rattle.anb_branch.proofs.playing.play_code.Goals as goal

pub returns-in-Ok-clause-closes : goal.returns-in-Ok-clause-closes
returns-in-Ok-clause-closes g c =
    closes_as (λ (more : List (List ℕ)). without_place (gives c.in-Ok.machine more)) (λ (more : List (List ℕ)). without_place (run_bytes c.args.code.now c.args.init.now c.args.seed.now 0 more))
    (g.W.Wire.state c.args.wire.now) (g.W.Wire.state c.play_whole.new.wire) c.play_whole.result (λ more. ap without_place (c.in-Ok.ensures.run more)) c.play_whole.ensures.closes

pub returns-in-Err-clause-closes : goal.returns-in-Err-clause-closes
returns-in-Err-clause-closes g c = closes_wanting (λ (more : List (List ℕ)). without_place (run_bytes c.args.code.now c.args.init.now c.args.seed.now 0 more)) (g.W.Wire.state c.args.wire.now)

pub returns-in-Err-clause-faults : goal.returns-in-Err-clause-faults
returns-in-Err-clause-faults g c = wants_memory (g.W.Wire.state c.args.wire.now)
