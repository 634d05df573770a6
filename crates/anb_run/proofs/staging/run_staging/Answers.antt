use Rattle.std.proofs.Common.{sym, subst}
use Rattle.anb_words.specs.Words.{asked_of}
use Rattle.anb_park_commands.specs.Words.{recorded_of}
use Rattle.anb_probe_commands.specs.Words.{probed_of}
use Rattle.anb_record_commands.specs.Words.{recording_of}
use Rattle.anb_stage_commands.specs.Words.{staged_of}
use Rattle.anb_session_commands.specs.Words.{following_of}
use Rattle.anb_stage_commands.specs.Asking.{staged}
use Rattle.anb_run.proofs.Testing.{untested_phase}
use Rattle.anb_run.proofs.Staged.{usage_staging}
use Rattle.anb_run.proofs.staging.run_staging.Goals as goal

pub returns-in-None-clause-does : goal.returns-in-None-clause-does
returns-in-None-clause-does g c = rw (sym c.in-None.ensures) c.run_in_session.ensures.does

pub returns-in-None-clause-completes : goal.returns-in-None-clause-completes
returns-in-None-clause-completes g c = rw (sym c.in-None.ensures) c.run_in_session.ensures.completes

pub returns-in-None-clause-usage : goal.returns-in-None-clause-usage
returns-in-None-clause-usage g c = rw (sym c.in-None.ensures) c.run_in_session.ensures.usage

pub returns-in-None-clause-faults : goal.returns-in-None-clause-faults
returns-in-None-clause-faults g c = rw (sym c.in-None.ensures) c.run_in_session.ensures.faults

pub returns-in-None-clause-fetches : goal.returns-in-None-clause-fetches
returns-in-None-clause-fetches g c = rw (sym c.in-None.ensures) c.run_in_session.ensures.fetches

pub returns-in-None-clause-reached : goal.returns-in-None-clause-reached
returns-in-None-clause-reached g c = rw (sym c.in-None.ensures) c.run_in_session.ensures.reached

pub returns-in-None-clause-touches : goal.returns-in-None-clause-touches
returns-in-None-clause-touches g c = rw (sym c.in-None.ensures) c.run_in_session.ensures.touches

pub returns-in-None-clause-reported : goal.returns-in-None-clause-reported
returns-in-None-clause-reported g c = c.run_in_session.ensures.reported

pub returns-in-Some-clause-does : goal.returns-in-Some-clause-does
returns-in-Some-clause-does g c = rw (sym c.in-Some.ensures) c.stage_into-status.ensures.does

pub returns-in-Some-clause-completes : goal.returns-in-Some-clause-completes
returns-in-Some-clause-completes g c = rw (sym c.in-Some.ensures) c.stage_into-status.ensures.completes

pub returns-in-Some-clause-faults : goal.returns-in-Some-clause-faults
returns-in-Some-clause-faults g c = rw (sym c.in-Some.ensures) c.stage_into-status.ensures.faults

pub returns-in-Some-clause-fetches : goal.returns-in-Some-clause-fetches
returns-in-Some-clause-fetches g c = rw (sym c.in-Some.ensures) c.stage_into-status.ensures.fetches

pub returns-in-Some-clause-reached : goal.returns-in-Some-clause-reached
returns-in-Some-clause-reached g c = rw (sym c.in-Some.ensures) c.stage_into-status.ensures.reached

pub returns-in-Some-clause-touches : goal.returns-in-Some-clause-touches
returns-in-Some-clause-touches g c = rw (sym c.in-Some.ensures) c.stage_into-status.ensures.touches

pub returns-in-Some-clause-usage : goal.returns-in-Some-clause-usage
returns-in-Some-clause-usage g c =
    rw (sym c.in-Some.ensures)
    (usage_staging (record { staged = staged c.in-Some.words.stage; folder = c.in-Some.words.folder.now }) (following_of c.args.words.now) (probed_of c.args.words.now) (recording_of c.args.words.now) (recorded_of c.args.words.now) (staged_of c.args.words.now) (asked_of c.args.words.now)
    (g.S.Store.state c.args.store.now) (g.S.Store.state c.stage_into-status.new.journal) (g.F.Shelf.faults c.args.shelf.now) (g.F.Shelf.faults c.stage_into-status.new.shelf) (g.P.Spawner.child c.args.spawner.now) (g.P.Spawner.child c.stage_into-status.new.spawner)
    (g.W.Wire.state c.args.wire.now) (g.W.Wire.state c.stage_into-status.new.wire) c.stage_into-status.result c.stage_into-status.ensures.faults)

pub returns-in-Some-clause-reported : goal.returns-in-Some-clause-reported
returns-in-Some-clause-reported g c = c.stage_into-status.ensures.reported

pub returns-in-Some-clause-none_left : goal.returns-in-Some-clause-none_left
returns-in-Some-clause-none_left g c = untested_phase (g.T.Trials.trial c.args.trials.now) c.requires.untried

pub returns-in-None-clause-none_left : goal.returns-in-None-clause-none_left
returns-in-None-clause-none_left g c = c.run_in_session.ensures.none_left

pub returns-in-None-clause-no_children : goal.returns-in-None-clause-no_children
returns-in-None-clause-no_children g c = λ none. c.run_in_session.ensures.no_children

pub returns-in-None-clause-unstored : goal.returns-in-None-clause-unstored
returns-in-None-clause-unstored g c = λ none. c.run_in_session.ensures.unstored

pub returns-in-Some-clause-no_children : goal.returns-in-Some-clause-no_children
returns-in-Some-clause-no_children g c = λ none. absurd (let never = c.in-Some.ensures in cc)

pub returns-in-Some-clause-unstored : goal.returns-in-Some-clause-unstored
returns-in-Some-clause-unstored g c = λ none. absurd (let never = c.in-Some.ensures in cc)
