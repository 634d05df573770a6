use Rattle.std.proofs.Common.{◌≡◌, ℕ, List, ap, subst}
use Rattle.anb_plays.specs.Plays.{Run}
use Rattle.anb_plays.specs.Runs.{without_place}
use Rattle.anb_machine.specs.ByteRuns.{run_bytes}
use Rattle.anb_machine.specs.Machines.{gives}
use Rattle.anb_session.proofs.Faults.{wants_memory}
use Rattle.anb_session.proofs.Turning.{closes_wanting}
use Rattle.anb_branch.specs.Recorded.{RecordsTo}
use Rattle.anb_branch.proofs.Turns.{closes_as}
use Rattle.anb_branch.proofs.recording.record_code.Goals as goal

pub returns-in-Ok-clause-closes : goal.returns-in-Ok-clause-closes
returns-in-Ok-clause-closes g c =
    closes_as (λ (more : List (List ℕ)). without_place (gives c.in-Ok.machine more)) (λ (more : List (List ℕ)). without_place (run_bytes c.args.code.now c.args.init.now c.args.seed.now 0 more))
    (g.W.Wire.state c.args.wire.now) (g.W.Wire.state c.record_whole.new.wire) c.record_whole.result.end (λ more. ap without_place (c.in-Ok.ensures.run more)) c.record_whole.ensures.closes

pub returns-in-Ok-clause-recorded : goal.returns-in-Ok-clause-recorded
returns-in-Ok-clause-recorded g c = λ some.
    let R = run_bytes c.args.code.now c.args.init.now c.args.seed.now 0 in
    let same : gives c.in-Ok.machine ≡ R = λ i more. c.in-Ok.ensures.run more i in
    subst (λ (Q : Run). RecordsTo Q c.args.file.now (g.J.Store.state c.args.journal.now) (g.J.Store.state c.record_whole.new.journal) c.record_whole.result.kept (g.W.Wire.state c.args.wire.now).left c.record_whole.result.end) same
    (c.record_whole.ensures.recorded some)

pub returns-in-Err-clause-closes : goal.returns-in-Err-clause-closes
returns-in-Err-clause-closes g c =
    rw c.nothing.ensures (closes_wanting (λ (more : List (List ℕ)). without_place (run_bytes c.args.code.now c.args.init.now c.args.seed.now 0 more)) (g.W.Wire.state c.args.wire.now))

pub returns-in-Err-clause-recorded : goal.returns-in-Err-clause-recorded
returns-in-Err-clause-recorded g c = λ some. absurd (some c.nothing.ensures)

pub returns-in-Err-clause-faults : goal.returns-in-Err-clause-faults
returns-in-Err-clause-faults g c = rw c.nothing.ensures (wants_memory (g.W.Wire.state c.args.wire.now))
