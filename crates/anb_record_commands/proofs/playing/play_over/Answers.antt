use Rattle.std.proofs.Common.{refl}
use Rattle.anb_machine.specs.ByteRuns.{run_bytes}
use Rattle.anb_record_commands.specs.Outcomes.{IsOfFolder}
use Rattle.anb_record_commands.proofs.Recorded.{missing_stopped, transcript_stopped, transcript_untold}
use Rattle.anb_session.proofs.Prompt.{prompt_placeless}
use Rattle.anb_command.proofs.Reported.{calm_told}
use Rattle.anb_command.proofs.Runs.{ends_untold, stops_untold}
use Rattle.anb_status.specs.declared.status.Status.TheVariants.{Stopped}
use Rattle.anb_role_commands.specs.Playing.{play_by}
use Rattle.anb_record_commands.proofs.playing.play_over.Goals as goal

pub returns-in-Stopped-clause-runs : goal.returns-in-Stopped-clause-runs
returns-in-Stopped-clause-runs g c = λ arrivals tail cut.
    let p = c.args.prepared.now in
    stops_untold (run_bytes p.code p.initial p.seed 0) arrivals tail (g.W.Wire.state c.args.wire.now).left (g.W.Wire.state c.record_over-status.new.wire).left (g.W.Wire.state c.args.wire.now).written (g.W.Wire.state c.record_over-status.new.wire).written c.in-Stopped.halt (rw c.in-Stopped.is at (c.record_over-status.ensures.runs arrivals tail cut))

pub returns-in-Stopped-clause-prompt : goal.returns-in-Stopped-clause-prompt
returns-in-Stopped-clause-prompt g c =
    let p = c.args.prepared.now in
    prompt_placeless (run_bytes p.code p.initial p.seed 0) (g.W.Wire.state c.args.wire.now) (g.W.Wire.state c.record_over-status.new.wire) c.record_over-status.ensures.prompt

pub returns-in-Stopped-clause-wire : goal.returns-in-Stopped-clause-wire
returns-in-Stopped-clause-wire g c =
    let wire = rw c.in-Stopped.is at c.record_over-status.ensures.wire in record { cause = tt; told = calm_told _ _ (Stopped c.in-Stopped.halt) refl wire.told _; reached = wire.reached; touches = wire.touches }

pub returns-in-Stopped-clause-why_missed : goal.returns-in-Stopped-clause-why_missed
returns-in-Stopped-clause-why_missed g c =
    missing_stopped (IsOfFolder c.args.folder.now) (g.J.Store.state c.args.journal.now) (g.J.Store.state c.record_over-status.new.journal) (g.W.Wire.state c.args.wire.now) (g.W.Wire.state c.record_over-status.new.wire) c.in-Stopped.halt c.record_over-status.result.missing
    (rw c.in-Stopped.is at c.record_over-status.ensures.why_missed)

pub returns-in_default-clause-runs : goal.returns-in_default-clause-runs
returns-in_default-clause-runs g c = λ arrivals tail cut.
    let p = c.args.prepared.now in
    ends_untold (run_bytes p.code p.initial p.seed 0) arrivals tail (g.W.Wire.state c.args.wire.now).left (g.W.Wire.state c.record_over-status.new.wire).left (g.W.Wire.state c.args.wire.now).written (g.W.Wire.state c.record_over-status.new.wire).written
    c.record_over-status.result.status c.in_default.not-Stopped (c.record_over-status.ensures.runs arrivals tail cut)

pub returns-in_default-clause-prompt : goal.returns-in_default-clause-prompt
returns-in_default-clause-prompt g c =
    let p = c.args.prepared.now in
    prompt_placeless (run_bytes p.code p.initial p.seed 0) (g.W.Wire.state c.args.wire.now) (g.W.Wire.state c.record_over-status.new.wire) c.record_over-status.ensures.prompt

pub returns-in_default-clause-wire : goal.returns-in_default-clause-wire
returns-in_default-clause-wire g c = c.record_over-status.ensures.wire

pub returns-in-Stopped-clause-fresh : goal.returns-in-Stopped-clause-fresh
returns-in-Stopped-clause-fresh g c = c.record_over-status.ensures.fresh

pub returns-in_default-clause-fresh : goal.returns-in_default-clause-fresh
returns-in_default-clause-fresh g c = c.record_over-status.ensures.fresh

pub returns-in_default-clause-late : goal.returns-in_default-clause-late
returns-in_default-clause-late g c = c.record_over-status.ensures.late

pub returns-in-Stopped-clause-recorded : goal.returns-in-Stopped-clause-recorded
returns-in-Stopped-clause-recorded g c = λ some whole.
    let p = c.args.prepared.now in
    transcript_stopped (run_bytes p.code p.initial p.seed 0) c.args.folder.now (g.J.Store.state c.args.journal.now) (g.J.Store.state c.record_over-status.new.journal) _ (g.W.Wire.state c.args.wire.now).left c.in-Stopped.halt
    ((rw c.in-Stopped.is at c.record_over-status.ensures.recorded) (λ is. cc) whole)

pub returns-in_default-clause-recorded : goal.returns-in_default-clause-recorded
returns-in_default-clause-recorded g c = λ some whole.
    let p = c.args.prepared.now in
    transcript_untold (run_bytes p.code p.initial p.seed 0) c.args.folder.now (g.J.Store.state c.args.journal.now) (g.J.Store.state c.record_over-status.new.journal) _ (g.W.Wire.state c.args.wire.now).left c.record_over-status.result.status
    c.in_default.not-Stopped (c.record_over-status.ensures.recorded some whole)
