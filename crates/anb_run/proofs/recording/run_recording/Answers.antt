use Rattle.std.proofs.Common.{sym}
use Rattle.anb_words.specs.Words.{asked_of}
use Rattle.anb_park_commands.specs.Words.{recorded_of}
use Rattle.anb_record_commands.specs.Asking.{recording}
use Rattle.anb_stage_commands.specs.Words.{staged_of}
use Rattle.anb_run.proofs.Usage.{usage_recording}
use Rattle.anb_run.proofs.recording.run_recording.Goals as goal

pub returns-in-None-clause-does : goal.returns-in-None-clause-does
returns-in-None-clause-does g c = rw (sym c.in-None.ensures) c.run_with_store.ensures.does

pub returns-in-None-clause-usage : goal.returns-in-None-clause-usage
returns-in-None-clause-usage g c = rw (sym c.in-None.ensures) c.run_with_store.ensures.usage

pub returns-in-None-clause-faults : goal.returns-in-None-clause-faults
returns-in-None-clause-faults g c = rw (sym c.in-None.ensures) c.run_with_store.ensures.faults

pub returns-in-None-clause-fetches : goal.returns-in-None-clause-fetches
returns-in-None-clause-fetches g c = rw (sym c.in-None.ensures) c.run_with_store.ensures.fetches

pub returns-in-None-clause-reached : goal.returns-in-None-clause-reached
returns-in-None-clause-reached g c = rw (sym c.in-None.ensures) c.run_with_store.ensures.reached

pub returns-in-None-clause-touches : goal.returns-in-None-clause-touches
returns-in-None-clause-touches g c = rw (sym c.in-None.ensures) c.run_with_store.ensures.touches

pub returns-in-None-clause-completes : goal.returns-in-None-clause-completes
returns-in-None-clause-completes g c = rw (sym c.in-None.ensures) c.run_with_store.ensures.completes

pub returns-in-None-clause-unstored : goal.returns-in-None-clause-unstored
returns-in-None-clause-unstored g c = λ none. c.run_with_store.ensures.unstored

pub returns-in-None-clause-reported : goal.returns-in-None-clause-reported
returns-in-None-clause-reported g c = c.run_with_store.ensures.reported

pub returns-in-Some-clause-does : goal.returns-in-Some-clause-does
returns-in-Some-clause-does g c = rw (sym c.in-Some.ensures) c.record-status.ensures.does

pub returns-in-Some-clause-faults : goal.returns-in-Some-clause-faults
returns-in-Some-clause-faults g c = rw (sym c.in-Some.ensures) c.record-status.ensures.faults

pub returns-in-Some-clause-fetches : goal.returns-in-Some-clause-fetches
returns-in-Some-clause-fetches g c = rw (sym c.in-Some.ensures) c.record-status.ensures.fetches

pub returns-in-Some-clause-reached : goal.returns-in-Some-clause-reached
returns-in-Some-clause-reached g c = rw (sym c.in-Some.ensures) c.record-status.ensures.reached

pub returns-in-Some-clause-touches : goal.returns-in-Some-clause-touches
returns-in-Some-clause-touches g c = rw (sym c.in-Some.ensures) c.record-status.ensures.touches

pub returns-in-Some-clause-completes : goal.returns-in-Some-clause-completes
returns-in-Some-clause-completes g c = rw (sym c.in-Some.ensures) c.record-status.ensures.completes

pub returns-in-Some-clause-unstored : goal.returns-in-Some-clause-unstored
returns-in-Some-clause-unstored g c = λ none. absurd (let never = c.in-Some.ensures in cc)

pub returns-in-Some-clause-usage : goal.returns-in-Some-clause-usage
returns-in-Some-clause-usage g c =
    rw (sym c.in-Some.ensures)
    (usage_recording (recording c.in-Some.words) (recorded_of c.args.words.now) (staged_of c.args.words.now) (asked_of c.args.words.now) (g.F.Shelf.faults c.args.shelf.now) (g.F.Shelf.faults c.record-status.new.shelf)
    (g.W.Wire.state c.args.wire.now) (g.W.Wire.state c.record-status.new.wire) (g.S.Store.state c.args.store.now) (g.S.Store.state c.record-status.new.store) c.record-status.result c.record-status.ensures.faults)

pub returns-in-Some-clause-reported : goal.returns-in-Some-clause-reported
returns-in-Some-clause-reported g c = c.record-status.ensures.reported
