use Rattle.std.proofs.Common.{refl, inl}
use Rattle.anb_base.specs.declared.place.Place.TheVariants.{Stdio}
use Rattle.anb_command.proofs.Causes.{early_cause, early_reaches}
use Rattle.anb_command.proofs.Failing.{IsFailure-map}
use Rattle.anb_command.proofs.OverWire.{untouched}
use Rattle.anb_command.proofs.Reported.{told_before, told_behind}
use Rattle.anb_recording.specs.Joining.{others_still}
use Rattle.anb_probe_commands.specs.Asking.{probing}
use Rattle.anb_probe_commands.specs.ProbeCommand.{probe_files}
use Rattle.anb_probe_commands.specs.Records.{IsOfRecord}
use Rattle.anb_probe_commands.specs.Tasks.{fitted_by, probing_by}
use Rattle.anb_probe_commands.proofs.Outcomes.{completes, does_refused, does_task, early_probe, early_phase, only_memory, task_cause}
use Rattle.anb_probe_commands.proofs.Played.{none_left_at_first}
use Rattle.anb_probe_commands.proofs.Reading.{probing_one}
use Rattle.anb_probe_commands.proofs.Told.{early_before, is_recorded, never_recorded}
use Rattle.anb_probe_commands.proofs.into.probe_recorded.Goals as goal

pub returns-in-Ok-clause-does : goal.returns-in-Ok-clause-does
returns-in-Ok-clause-does g c =
    let words = c.args.words in
    let t = c.in-Ok.task in
    does_task (probing words) c.args.host_seed
    (probing_one words.narration.now words.name.now words.values.now c.args.host_seed c.narrations_are_unique.ensures c.refusals_are_unique.ensures c.none_is_both.ensures c.one_fit.ensures)
    (g.F.Shelf.files c.args.shelf.now) (probing_by t.protocol t.role t.values t.seed) (g.T.Trials.trial c.args.trials.now) (g.T.Trials.trial c.record_task.new.trials) (g.W.Wire.state c.args.wire.now) (g.W.Wire.state c.record_task.new.wire)
    c.record_task.result.status c.in-Ok.ensures.given c.record_task.ensures.comes

pub returns-in-Ok-clause-faults : goal.returns-in-Ok-clause-faults
returns-in-Ok-clause-faults g c =
    task_cause (probe_files (probing c.args.words)) (g.F.Shelf.faults c.args.shelf.now) (g.F.Shelf.faults c.task_in_files.new.shelf) (g.T.Trials.trial c.args.trials.now) (g.T.Trials.trial c.record_task.new.trials)
    (g.W.Wire.state c.args.wire.now) (g.W.Wire.state c.record_task.new.wire) c.record_task.result.status c.record_task.ensures.over

pub returns-in-Ok-clause-completes : goal.returns-in-Ok-clause-completes
returns-in-Ok-clause-completes g c = λ none calm.
    let words = c.args.words in
    completes (probing words) c.args.host_seed
    (probing_one words.narration.now words.name.now words.values.now c.args.host_seed c.narrations_are_unique.ensures c.refusals_are_unique.ensures c.none_is_both.ensures c.one_fit.ensures)
    (g.F.Shelf.files c.args.shelf.now) (g.T.Trials.trial c.args.trials.now) (g.T.Trials.trial c.record_task.new.trials) (g.W.Wire.state c.args.wire.now) (g.W.Wire.state c.record_task.new.wire) c.record_task.result.status
    (only_memory (probe_files (probing words)) (g.F.Shelf.faults c.args.shelf.now) (g.F.Shelf.faults c.task_in_files.new.shelf) (g.T.Trials.trial c.args.trials.now) (g.T.Trials.trial c.record_task.new.trials)
    (g.W.Wire.state c.args.wire.now) (g.W.Wire.state c.record_task.new.wire) none calm c.record_task.result.status (returns-in-Ok-clause-faults g c))
    (returns-in-Ok-clause-does g c)

pub returns-in-Ok-clause-reached : goal.returns-in-Ok-clause-reached
returns-in-Ok-clause-reached g c = c.record_task.ensures.over.reached

pub returns-in-Ok-clause-touches : goal.returns-in-Ok-clause-touches
returns-in-Ok-clause-touches g c = c.record_task.ensures.over.touches

pub returns-in-Ok-clause-reported : goal.returns-in-Ok-clause-reported
returns-in-Ok-clause-reported g c = told_behind _ _ _ _ _ (c.in-Ok.ensures.told refl) c.record_task.ensures.over.told

pub returns-in-Err-clause-does : goal.returns-in-Err-clause-does
returns-in-Err-clause-does g c =
    let words = c.args.words in
    does_refused (probing words) c.args.host_seed
    (probing_one words.narration.now words.name.now words.values.now c.args.host_seed c.narrations_are_unique.ensures c.refusals_are_unique.ensures c.none_is_both.ensures c.one_fit.ensures)
    (g.F.Shelf.files c.args.shelf.now) (g.T.Trials.trial c.args.trials.now) (g.W.Wire.state c.args.wire.now) c.in-Err.status c.in-Err.ensures.early
    (IsFailure-map c.in-Err.status _ _ _ _ (λ file at. at.2) (λ is. is) c.in-Err.ensures.refused)

pub returns-in-Err-clause-faults : goal.returns-in-Err-clause-faults
returns-in-Err-clause-faults g c =
    let names = probe_files (probing c.args.words) in
    let S = g.W.Wire.state c.args.wire.now in
    early_probe names (g.F.Shelf.faults c.args.shelf.now) (g.F.Shelf.faults c.task_in_files.new.shelf) (g.T.Trials.trial c.args.trials.now) (g.T.Trials.trial c.args.trials.now) S S c.in-Err.status c.in-Err.ensures.early
    (early_cause names Stdio (g.F.Shelf.faults c.args.shelf.now) (g.F.Shelf.faults c.task_in_files.new.shelf) S S c.in-Err.status _ c.in-Err.ensures.early
    (IsFailure-map c.in-Err.status _ _ _ _ (λ file at. (at.0, at.1)) (λ is. is) c.in-Err.ensures.refused))

pub returns-in-Err-clause-completes : goal.returns-in-Err-clause-completes
returns-in-Err-clause-completes g c = λ none calm.
    let words = c.args.words in
    let S = g.W.Wire.state c.args.wire.now in
    completes (probing words) c.args.host_seed
    (probing_one words.narration.now words.name.now words.values.now c.args.host_seed c.narrations_are_unique.ensures c.refusals_are_unique.ensures c.none_is_both.ensures c.one_fit.ensures)
    (g.F.Shelf.files c.args.shelf.now) (g.T.Trials.trial c.args.trials.now) (g.T.Trials.trial c.args.trials.now) S S c.in-Err.status
    (only_memory (probe_files (probing words)) (g.F.Shelf.faults c.args.shelf.now) (g.F.Shelf.faults c.task_in_files.new.shelf) (g.T.Trials.trial c.args.trials.now) (g.T.Trials.trial c.args.trials.now) S S none calm c.in-Err.status
    (returns-in-Err-clause-faults g c)) (returns-in-Err-clause-does g c)

pub returns-in-Err-clause-reached : goal.returns-in-Err-clause-reached
returns-in-Err-clause-reached g c = rw (early_phase c.in-Err.status c.in-Err.ensures.early) (early_reaches Stdio c.in-Err.status (g.W.Wire.state c.args.wire.now).reached c.in-Err.ensures.early)

pub returns-in-Err-clause-touches : goal.returns-in-Err-clause-touches
returns-in-Err-clause-touches g c = untouched _ _ _

pub returns-in-Err-clause-reported : goal.returns-in-Err-clause-reported
returns-in-Err-clause-reported g c = told_before _ _ _ _ c.in-Err.ensures.told

pub returns-in-Err-clause-none_left : goal.returns-in-Err-clause-none_left
returns-in-Err-clause-none_left g c = none_left_at_first (g.T.Trials.trial c.args.trials.now) c.requires.untried

pub returns-in-Ok-clause-recorded : goal.returns-in-Ok-clause-recorded
returns-in-Ok-clause-recorded g c = λ late some whole.
    let t = c.in-Ok.task in
    is_recorded (probing c.args.words) c.args.folder.now (g.F.Shelf.files c.args.shelf.now) c.args.host_seed (g.T.Trials.trial c.args.trials.now) (g.T.Trials.trial c.record_task.new.trials)
    (g.W.Wire.state c.args.wire.now) (g.W.Wire.state c.record_task.new.wire) (g.J.Store.state c.args.journal.now) (g.J.Store.state c.record_task.new.journal) (probing_by t.protocol t.role t.values t.seed)
    (fitted_by t.values t.file_seed) c.record_task.result.status c.in-Ok.ensures.given c.in-Ok.ensures.own (c.record_task.ensures.recorded late some whole)

pub returns-in-Err-clause-why_missed : goal.returns-in-Err-clause-why_missed
returns-in-Err-clause-why_missed g c = λ some. (refl, others_still (IsOfRecord c.args.folder.now) (g.J.Store.state c.args.journal.now))

pub returns-in-Err-clause-fresh : goal.returns-in-Err-clause-fresh
returns-in-Err-clause-fresh g c = inl (refl, refl)

pub returns-in-Err-clause-recorded : goal.returns-in-Err-clause-recorded
returns-in-Err-clause-recorded g c = λ late some whole. never_recorded c.in-Err.status (early_before c.in-Err.status c.in-Err.ensures.early) late some
