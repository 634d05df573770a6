use Rattle.std.proofs.Common.{refl}
use Rattle.anb_stage_commands.specs.Asking.{staged}
use Rattle.anb_stage_commands.proofs.Answering.{does_refused, does_text}
use Rattle.anb_stage_commands.proofs.Outcomes.{before_cause, completes, stage_cause}
use Rattle.anb_stage_commands.proofs.Told.{ends_refused, ends_written, of_writing, written_quiet}
use Rattle.anb_command.proofs.Reported.{told_before, told_behind}
use Rattle.anb_stage_commands.proofs.into.staged_into.Goals as goal

pub returns-in-Ok-clause-does : goal.returns-in-Ok-clause-does
returns-in-Ok-clause-does g c =
    does_text c.narrations_are_unique.ensures c.refusals_are_unique.ensures c.none_is_both.ensures c.one_fit.ensures c.relays_are_due.ensures (staged c.args.words) (g.P.Spawner.child c.args.spawner.now) (g.P.Spawner.child c.recorded_in_file-outcome.new.spawner) (g.F.Shelf.files c.args.shelf.now)
    c.in-Ok.text.items c.write_text.result (g.W.Wire.state c.args.wire.now).written (g.W.Wire.state c.write_text.new.wire).written (rw c.in-Ok.is at c.recorded_in_file-outcome.ensures.relayed)
    (rw c.deref.ensures.value at c.write_text.ensures.writes)

pub returns-in-Ok-clause-faults : goal.returns-in-Ok-clause-faults
returns-in-Ok-clause-faults g c =
    stage_cause (staged c.args.words) (g.F.Shelf.faults c.args.shelf.now) (g.F.Shelf.faults c.recorded_in_file-outcome.new.shelf) (g.P.Spawner.child c.args.spawner.now)
    (g.P.Spawner.child c.recorded_in_file-outcome.new.spawner) (g.W.Wire.state c.args.wire.now) c.args.words.limit (g.W.Wire.state c.write_text.new.wire) c.write_text.result c.write_text.ensures.wire.cause

pub returns-in-Ok-clause-completes : goal.returns-in-Ok-clause-completes
returns-in-Ok-clause-completes g c = λ quiet calm.
    completes c.narrations_are_unique.ensures c.refusals_are_unique.ensures c.none_is_both.ensures c.one_fit.ensures (staged c.args.words) (g.F.Shelf.files c.args.shelf.now)
    (g.P.Spawner.child c.args.spawner.now) (g.P.Spawner.child c.recorded_in_file-outcome.new.spawner) (g.F.Shelf.faults c.args.shelf.now) (g.F.Shelf.faults c.recorded_in_file-outcome.new.shelf)
    (g.W.Wire.state c.args.wire.now) (g.W.Wire.state c.write_text.new.wire) quiet calm c.write_text.result (g.W.Wire.state c.args.wire.now).written
    (g.W.Wire.state c.write_text.new.wire).written (returns-in-Ok-clause-faults g c) (returns-in-Ok-clause-does g c).stages

pub returns-in-Err-clause-does : goal.returns-in-Err-clause-does
returns-in-Err-clause-does g c =
    does_refused c.narrations_are_unique.ensures c.refusals_are_unique.ensures c.none_is_both.ensures c.one_fit.ensures c.relays_are_due.ensures (staged c.args.words) (g.P.Spawner.child c.args.spawner.now) (g.P.Spawner.child c.recorded_in_file-outcome.new.spawner) (g.F.Shelf.files c.args.shelf.now)
    c.in-Err.status (g.W.Wire.state c.args.wire.now).written (rw c.in-Err.is at c.recorded_in_file-outcome.ensures.failed)

pub returns-in-Err-clause-faults : goal.returns-in-Err-clause-faults
returns-in-Err-clause-faults g c =
    before_cause (staged c.args.words) (g.F.Shelf.faults c.args.shelf.now) (g.F.Shelf.faults c.recorded_in_file-outcome.new.shelf) (g.P.Spawner.child c.args.spawner.now)
    (g.P.Spawner.child c.recorded_in_file-outcome.new.spawner) (g.W.Wire.state c.args.wire.now) c.in-Err.status (rw c.in-Err.is at c.recorded_in_file-outcome.ensures.before) (rw c.in-Err.is at c.recorded_in_file-outcome.ensures.cause)

pub returns-in-Err-clause-completes : goal.returns-in-Err-clause-completes
returns-in-Err-clause-completes g c = λ quiet calm.
    completes c.narrations_are_unique.ensures c.refusals_are_unique.ensures c.none_is_both.ensures c.one_fit.ensures (staged c.args.words) (g.F.Shelf.files c.args.shelf.now)
    (g.P.Spawner.child c.args.spawner.now) (g.P.Spawner.child c.recorded_in_file-outcome.new.spawner) (g.F.Shelf.faults c.args.shelf.now) (g.F.Shelf.faults c.recorded_in_file-outcome.new.shelf)
    (g.W.Wire.state c.args.wire.now) (g.W.Wire.state c.args.wire.now) quiet calm c.in-Err.status (g.W.Wire.state c.args.wire.now).written
    (g.W.Wire.state c.args.wire.now).written (returns-in-Err-clause-faults g c) (returns-in-Err-clause-does g c).stages

pub returns-in-Ok-clause-reported : goal.returns-in-Ok-clause-reported
returns-in-Ok-clause-reported g c = told_behind _ _ _ _ _ ((rw c.in-Ok.is at c.recorded_in_file-outcome.ensures.told) refl) c.write_text.ensures.wire.told

pub returns-in-Err-clause-reported : goal.returns-in-Err-clause-reported
returns-in-Err-clause-reported g c = told_before _ _ _ _ (rw c.in-Err.is at c.recorded_in_file-outcome.ensures.told)

pub returns-in-Ok-clause-ended : goal.returns-in-Ok-clause-ended
returns-in-Ok-clause-ended g c =
    ends_written (staged c.args.words) c.args.folder.now (g.P.Spawner.child c.args.spawner.now) (g.P.Spawner.child c.recorded_in_file-outcome.new.spawner) (g.J.Store.state c.args.journal.now) (g.J.Store.state c.recorded_in_file-outcome.new.journal)
    (g.F.Shelf.files c.args.shelf.now) c.recorded_in_file-outcome.result.missing c.in-Ok.text c.write_text.result
    (written_quiet (g.W.Wire.state c.args.wire.now) (g.W.Wire.state c.write_text.new.wire) c.write_text.result c.write_text.ensures.wire.cause)
    (of_writing _ c.write_text.result (g.W.Wire.state c.args.wire.now).written (g.W.Wire.state c.write_text.new.wire).written c.write_text.ensures.writes) (rw c.in-Ok.is at c.recorded_in_file-outcome.ensures.kept)

pub returns-in-Err-clause-ended : goal.returns-in-Err-clause-ended
returns-in-Err-clause-ended g c =
    ends_refused (staged c.args.words) c.args.folder.now (g.P.Spawner.child c.args.spawner.now) (g.P.Spawner.child c.recorded_in_file-outcome.new.spawner) (g.J.Store.state c.args.journal.now) (g.J.Store.state c.recorded_in_file-outcome.new.journal)
    (g.F.Shelf.files c.args.shelf.now) c.recorded_in_file-outcome.result.missing c.in-Err.status (rw c.in-Err.is at c.recorded_in_file-outcome.ensures.kept)
