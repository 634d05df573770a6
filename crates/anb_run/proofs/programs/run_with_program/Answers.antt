use Rattle.std.proofs.Common.{◌∙◌, ap, sym, subst}
use Rattle.anb_words.specs.Words.{asked_of}
use Rattle.anb_park_commands.specs.Words.{recorded_of}
use Rattle.anb_probe_commands.specs.Asking.{folder_by, probing}
use Rattle.anb_run.specs.Programs.{folder_in}
use Rattle.anb_record_commands.specs.Words.{recording_of}
use Rattle.anb_stage_commands.specs.Words.{staged_of}
use Rattle.anb_run.proofs.Testing.{untested_phase, usage_testing}
use Rattle.anb_run.proofs.programs.run_with_program.Goals as goal

pub returns-in-None-clause-does : goal.returns-in-None-clause-does
returns-in-None-clause-does g c = rw (sym c.in-None.ensures) c.run_recording.ensures.does

pub returns-in-None-clause-completes : goal.returns-in-None-clause-completes
returns-in-None-clause-completes g c = rw (sym c.in-None.ensures) c.run_recording.ensures.completes

pub returns-in-None-clause-usage : goal.returns-in-None-clause-usage
returns-in-None-clause-usage g c = rw (sym c.in-None.ensures) c.run_recording.ensures.usage

pub returns-in-None-clause-faults : goal.returns-in-None-clause-faults
returns-in-None-clause-faults g c = rw (sym c.in-None.ensures) c.run_recording.ensures.faults

pub returns-in-None-clause-fetches : goal.returns-in-None-clause-fetches
returns-in-None-clause-fetches g c = rw (sym c.in-None.ensures) c.run_recording.ensures.fetches

pub returns-in-None-clause-reached : goal.returns-in-None-clause-reached
returns-in-None-clause-reached g c = rw (sym c.in-None.ensures) c.run_recording.ensures.reached

pub returns-in-None-clause-touches : goal.returns-in-None-clause-touches
returns-in-None-clause-touches g c = rw (sym c.in-None.ensures) c.run_recording.ensures.touches

pub returns-in-None-clause-reported : goal.returns-in-None-clause-reported
returns-in-None-clause-reported g c = c.run_recording.ensures.reported

pub returns-in-None-clause-none_left : goal.returns-in-None-clause-none_left
returns-in-None-clause-none_left g c = untested_phase (g.T.Trials.trial c.args.trials.now) c.requires.untried

pub returns-in-Some-clause-does : goal.returns-in-Some-clause-does
returns-in-Some-clause-does g c = rw (sym c.in-Some.ensures) c.test-status.ensures.does

pub returns-in-Some-clause-completes : goal.returns-in-Some-clause-completes
returns-in-Some-clause-completes g c = rw (sym c.in-Some.ensures) c.test-status.ensures.completes

pub returns-in-Some-clause-faults : goal.returns-in-Some-clause-faults
returns-in-Some-clause-faults g c = rw (sym c.in-Some.ensures) c.test-status.ensures.faults

pub returns-in-Some-clause-fetches : goal.returns-in-Some-clause-fetches
returns-in-Some-clause-fetches g c = rw (sym c.in-Some.ensures) c.test-status.ensures.fetches

pub returns-in-Some-clause-reached : goal.returns-in-Some-clause-reached
returns-in-Some-clause-reached g c = rw (sym c.in-Some.ensures) c.test-status.ensures.reached

pub returns-in-Some-clause-touches : goal.returns-in-Some-clause-touches
returns-in-Some-clause-touches g c = rw (sym c.in-Some.ensures) c.test-status.ensures.touches

pub returns-in-Some-clause-usage : goal.returns-in-Some-clause-usage
returns-in-Some-clause-usage g c =
    rw (sym c.in-Some.ensures)
    (usage_testing (probing c.in-Some.words) (g.F.Shelf.faults c.args.shelf.now) (g.F.Shelf.faults c.test-status.new.shelf) (g.T.Trials.trial c.args.trials.now) (g.T.Trials.trial c.test-status.new.trials)
    (g.W.Wire.state c.args.wire.now) (g.W.Wire.state c.test-status.new.wire) (g.S.Store.state c.args.store.now) (g.S.Store.state c.test-status.new.store)
    (recording_of c.args.words.now) (recorded_of c.args.words.now) (staged_of c.args.words.now) (asked_of c.args.words.now) c.test-status.result (folder_by c.in-Some.words.trying.folder) c.test-status.ensures.faults)

pub returns-in-None-clause-unstored : goal.returns-in-None-clause-unstored
returns-in-None-clause-unstored g c = λ none. c.run_recording.ensures.unstored

pub returns-in-Some-clause-unstored : goal.returns-in-Some-clause-unstored
returns-in-Some-clause-unstored g c = λ none more other. c.test-status.ensures.unstored (ap folder_in c.in-Some.ensures ∙ none)

pub returns-in-Some-clause-untested : goal.returns-in-Some-clause-untested
returns-in-Some-clause-untested g c = λ none. absurd (let never = c.in-Some.ensures in cc)

pub returns-in-Some-clause-reported : goal.returns-in-Some-clause-reported
returns-in-Some-clause-reported g c = c.test-status.ensures.reported

pub returns-in-Some-clause-none_left : goal.returns-in-Some-clause-none_left
returns-in-Some-clause-none_left g c = c.test-status.ensures.none_left
