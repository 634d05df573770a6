use Rattle.std.proofs.Common.{refl}
use Rattle.anb_base.specs.Wires.{WireState}
use Rattle.anb_machine.specs.Machines.{gives}
use Rattle.anb_command.specs.Prepared.{RunsOn, status_of}
use Rattle.anb_record_commands.proofs.Recorded.{misses, records_run}
use Rattle.anb_command.proofs.Causes.{after_of, cause_of}
use Rattle.anb_command.proofs.OverWire.{by_parts}
use Rattle.anb_command.proofs.Reported.{session_told, session_stays}
use Rattle.anb_command.proofs.Runs.{runs_to}
use Rattle.anb_record_commands.proofs.over.record_now.Goals as goal

pub returns-clause-runs : goal.returns-clause-runs
returns-clause-runs g c =
    let R = gives c.args.machine.now in
    by_parts (λ (S T : WireState). RunsOn R S T c.status_of.result) _ _ _ _ (g.met.W.Wire.state_tells c.args.wire.now) (g.met.W.Wire.state_tells c.record_play-recorded.new.wire)
    (λ arrivals tail cut. rw c.status_of.ensures (runs_to R R (λ heard. refl) arrivals tail _ _ _ _ c.record_play-recorded.result.end (c.record_play-recorded.ensures.runs arrivals tail cut)))

pub returns-clause-after : goal.returns-clause-after
returns-clause-after g c = rw c.status_of.ensures (after_of c.record_play-recorded.result.end)

pub returns-clause-cause : goal.returns-clause-cause
returns-clause-cause g c = λ place.
    let tells = c.record_play-recorded.ensures.faults in
    rw c.status_of.ensures (cause_of c.record_play-recorded.result.end place (g.W.Wire.state c.args.wire.now) (g.W.Wire.state c.record_play-recorded.new.wire) tells.reading.rose tells.writing.rose)

pub returns-clause-told : goal.returns-clause-told
returns-clause-told g c =
    rw c.status_of.ensures (session_told (g.W.Wire.state c.args.wire.now) (g.W.Wire.state c.record_play-recorded.new.wire) c.record_play-recorded.result.end c.record_play-recorded.ensures.faults status_of refl refl)

pub returns-clause-reached : goal.returns-clause-reached
returns-clause-reached g c = session_stays (g.W.Wire.state c.args.wire.now) (g.W.Wire.state c.record_play-recorded.new.wire) c.record_play-recorded.result.end c.record_play-recorded.ensures.faults

pub returns-clause-why_missed : goal.returns-clause-why_missed
returns-clause-why_missed g c =
    rw (c.status_of.ensures, c.missing_of.ensures)
    (misses (gives c.args.machine.now) c.args.transcript (g.J.Store.state c.args.journal.now) (g.J.Store.state c.record_play-recorded.new.journal) (g.W.Wire.state c.args.wire.now).left c.record_play-recorded.result.end c.record_play-recorded.result.kept c.record_play-recorded.ensures.recorded)

pub returns-clause-recorded : goal.returns-clause-recorded
returns-clause-recorded g c =
    rw (c.status_of.ensures, c.missing_of.ensures)
    (records_run (gives c.args.machine.now) c.args.transcript (g.J.Store.state c.args.journal.now) (g.J.Store.state c.record_play-recorded.new.journal) (g.W.Wire.state c.args.wire.now).left c.record_play-recorded.result.end c.record_play-recorded.result.kept c.record_play-recorded.ensures.recorded)
