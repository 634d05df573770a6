use Rattle.std.proofs.Common.{sym, subst}
use Rattle.anb_words.specs.Words.{asked_of}
use Rattle.anb_park_commands.specs.Words.{recorded_of}
use Rattle.anb_probe_commands.specs.Words.{probed_of}
use Rattle.anb_record_commands.specs.Words.{recording_of}
use Rattle.anb_stage_commands.specs.Words.{staged_of}
use Rattle.anb_session_commands.specs.Asking.{following}
use Rattle.anb_session_commands.specs.Words.{without_session}
use Rattle.anb_words.specs.Words.{files_of}
use Rattle.anb_run.proofs.Testing.{untested_phase}
use Rattle.anb_run.proofs.Following.{usage_following}
use Rattle.anb_run.proofs.sessions.run_in_session.Goals as goal

pub returns-in-None-clause-does : goal.returns-in-None-clause-does
returns-in-None-clause-does g c = rw (sym c.in-None.ensures) c.run_with_program.ensures.does

pub returns-in-None-clause-completes : goal.returns-in-None-clause-completes
returns-in-None-clause-completes g c = rw (sym c.in-None.ensures) c.run_with_program.ensures.completes

pub returns-in-None-clause-usage : goal.returns-in-None-clause-usage
returns-in-None-clause-usage g c = rw (sym c.in-None.ensures) c.run_with_program.ensures.usage

pub returns-in-None-clause-faults : goal.returns-in-None-clause-faults
returns-in-None-clause-faults g c = rw (sym c.in-None.ensures) c.run_with_program.ensures.faults

pub returns-in-None-clause-fetches : goal.returns-in-None-clause-fetches
returns-in-None-clause-fetches g c = rw (sym c.in-None.ensures) c.run_with_program.ensures.fetches

pub returns-in-None-clause-reached : goal.returns-in-None-clause-reached
returns-in-None-clause-reached g c = rw (sym c.in-None.ensures) c.run_with_program.ensures.reached

pub returns-in-None-clause-touches : goal.returns-in-None-clause-touches
returns-in-None-clause-touches g c = rw (sym c.in-None.ensures) c.run_with_program.ensures.touches

pub returns-in-None-clause-reported : goal.returns-in-None-clause-reported
returns-in-None-clause-reported g c = c.run_with_program.ensures.reported

pub returns-in-Some-clause-does : goal.returns-in-Some-clause-does
returns-in-Some-clause-does g c = rw (sym c.in-Some.ensures) c.follow-status.ensures.does

pub returns-in-Some-clause-completes : goal.returns-in-Some-clause-completes
returns-in-Some-clause-completes g c = rw (sym c.in-Some.ensures) c.follow-status.ensures.completes

pub returns-in-Some-clause-faults : goal.returns-in-Some-clause-faults
returns-in-Some-clause-faults g c = rw (sym c.in-Some.ensures) c.follow-status.ensures.faults

pub returns-in-Some-clause-fetches : goal.returns-in-Some-clause-fetches
returns-in-Some-clause-fetches g c = rw (sym c.in-Some.ensures) c.follow-status.ensures.fetches

pub returns-in-Some-clause-reached : goal.returns-in-Some-clause-reached
returns-in-Some-clause-reached g c = rw (sym c.in-Some.ensures) c.follow-status.ensures.reached

pub returns-in-Some-clause-touches : goal.returns-in-Some-clause-touches
returns-in-Some-clause-touches g c = rw (sym c.in-Some.ensures) c.follow-status.ensures.touches

pub returns-in-Some-clause-usage : goal.returns-in-Some-clause-usage
returns-in-Some-clause-usage g c =
    rw (sym c.in-Some.ensures)
    (usage_following (following c.in-Some.words) (probed_of c.args.words.now) (recording_of c.args.words.now) (recorded_of c.args.words.now) (staged_of c.args.words.now) (asked_of c.args.words.now) (g.F.Shelf.faults c.args.shelf.now) (g.F.Shelf.faults c.follow-status.new.shelf)
    (g.W.Wire.state c.args.wire.now) (g.W.Wire.state c.follow-status.new.wire) c.follow-status.result c.follow-status.ensures.faults)

pub returns-in-Some-clause-reported : goal.returns-in-Some-clause-reported
returns-in-Some-clause-reported g c = c.follow-status.ensures.reported

pub returns-in-Some-clause-none_left : goal.returns-in-Some-clause-none_left
returns-in-Some-clause-none_left g c = untested_phase (g.T.Trials.trial c.args.trials.now) c.requires.untried

pub returns-in-None-clause-none_left : goal.returns-in-None-clause-none_left
returns-in-None-clause-none_left g c = c.run_with_program.ensures.none_left
