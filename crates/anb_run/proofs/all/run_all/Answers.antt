use Rattle.std.proofs.Common.{sym}
use Rattle.anb_words.specs.Words.{asked_of}
use Rattle.anb_stage_commands.specs.Asking.{staged}
use Rattle.anb_stage_commands.specs.Words.{staged_files}
use Rattle.anb_run.proofs.Usage.{usage_none, usage_some}
use Rattle.anb_run.proofs.all.run_all.Goals as goal

pub returns-in-None-clause-does : goal.returns-in-None-clause-does
returns-in-None-clause-does g c = rw (sym c.in-None.ensures) c.run.ensures.does

pub returns-in-None-clause-completes : goal.returns-in-None-clause-completes
returns-in-None-clause-completes g c = rw (sym c.in-None.ensures) c.run.ensures.completes

pub returns-in-None-clause-usage : goal.returns-in-None-clause-usage
returns-in-None-clause-usage g c = rw (sym c.in-None.ensures) (usage_none _ _ c.run.ensures.usage)

pub returns-in-None-clause-faults : goal.returns-in-None-clause-faults
returns-in-None-clause-faults g c = rw (sym c.in-None.ensures) c.run.ensures.faults

pub returns-in-None-clause-fetches : goal.returns-in-None-clause-fetches
returns-in-None-clause-fetches g c = rw (sym c.in-None.ensures) c.run.ensures.fetches

pub returns-in-None-clause-reached : goal.returns-in-None-clause-reached
returns-in-None-clause-reached g c = rw (sym c.in-None.ensures) c.run.ensures.reached

pub returns-in-None-clause-touches : goal.returns-in-None-clause-touches
returns-in-None-clause-touches g c = rw (sym c.in-None.ensures) c.run.ensures.touches

pub returns-in-Some-clause-does : goal.returns-in-Some-clause-does
returns-in-Some-clause-does g c = rw (sym c.in-Some.ensures) c.stage-status.ensures.does

pub returns-in-Some-clause-completes : goal.returns-in-Some-clause-completes
returns-in-Some-clause-completes g c = rw (sym c.in-Some.ensures) c.stage-status.ensures.completes

pub returns-in-Some-clause-usage : goal.returns-in-Some-clause-usage
returns-in-Some-clause-usage g c =
    rw (sym c.in-Some.ensures)
    (usage_some (staged c.in-Some.words) (asked_of c.args.words.now) c.in-Some.words.limit (staged_files (staged c.in-Some.words))
    (g.F.Shelf.faults c.args.shelf.now) (g.F.Shelf.faults c.stage-status.new.shelf) (g.P.Spawner.child c.args.spawner.now) (g.P.Spawner.child c.stage-status.new.spawner)
    (g.W.Wire.state c.args.wire.now) (g.W.Wire.state c.stage-status.new.wire) c.stage-status.result c.stage-status.ensures.faults)

pub returns-in-Some-clause-faults : goal.returns-in-Some-clause-faults
returns-in-Some-clause-faults g c = rw (sym c.in-Some.ensures) c.stage-status.ensures.faults

pub returns-in-Some-clause-no_children : goal.returns-in-Some-clause-no_children
returns-in-Some-clause-no_children g c = λ none. absurd (let never = c.in-Some.ensures in cc)

pub returns-in-Some-clause-fetches : goal.returns-in-Some-clause-fetches
returns-in-Some-clause-fetches g c = rw (sym c.in-Some.ensures) c.stage-status.ensures.fetches

pub returns-in-Some-clause-reached : goal.returns-in-Some-clause-reached
returns-in-Some-clause-reached g c = rw (sym c.in-Some.ensures) c.stage-status.ensures.reached

pub returns-in-Some-clause-touches : goal.returns-in-Some-clause-touches
returns-in-Some-clause-touches g c = rw (sym c.in-Some.ensures) c.stage-status.ensures.touches

pub returns-in-None-clause-reported : goal.returns-in-None-clause-reported
returns-in-None-clause-reported g c = c.run.ensures.reported

pub returns-in-Some-clause-reported : goal.returns-in-Some-clause-reported
returns-in-Some-clause-reported g c = c.stage-status.ensures.reported
