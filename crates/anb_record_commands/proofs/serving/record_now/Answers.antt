use Rattle.std.proofs.Common.{[], Some, ap, refl, subst}
use Rattle.anb_base.specs.Wires.{WireState}
use Rattle.anb_host.specs.HostFrames.{FramesLeft}
use Rattle.anb_host.specs.declared.serving.HostEnd.TheVariants as ends
use Rattle.anb_command.specs.Causes.{HasWireCause}
use Rattle.anb_command.specs.OverWire.{StaysReached}
use Rattle.anb_command.specs.Reported.{TellsWireFaults}
use Rattle.anb_command.proofs.OverWire.{by_parts}
use Rattle.anb_command.proofs.Reported.{end_told}
use Rattle.anb_command.proofs.States.{telling}
use Rattle.anb_host_commands.specs.Serving.{status_of}
use Rattle.anb_host_commands.proofs.Reached.{after_of, cause_of}
use Rattle.anb_record_commands.proofs.Hosted.{misses_sessions, records_sessions}
use Rattle.anb_record_commands.proofs.serving.record_now.Goals as goal

pub returns-clause-serves : goal.returns-clause-serves
returns-clause-serves g c = λ past events tail stands left. (
  c.record_sessions-recorded.result.end,
  c.status_of.ensures,
  c.record_sessions-recorded.ensures.serves past events tail stands (subst (λ l. FramesLeft l events tail) (ap (λ (s : WireState). s.left) (g.met.W.Wire.state_tells c.args.wire.now)) left),
)

pub returns-clause-after : goal.returns-clause-after
returns-clause-after g c = rw c.status_of.ensures (after_of c.record_sessions-recorded.result.end)

pub returns-clause-cause : goal.returns-clause-cause
returns-clause-cause g c = λ place.
    let w = c.args.wire.now in
    let v = c.record_sessions-recorded.new.wire in
    let S = telling (g.W.Source.left w) (g.W.Source.taken_at w) (g.W.Source.faults w) (g.W.Sink.written w) (g.W.Sink.faults w) (g.W.Wire.reached w) (g.W.Wire.reach_faults w) in
    let T = telling (g.W.Source.left v) (g.W.Source.taken_at v) (g.W.Source.faults v) (g.W.Sink.written v) (g.W.Sink.faults v) (g.W.Wire.reached v) (g.W.Wire.reach_faults v) in
    by_parts (λ (S T : WireState). HasWireCause (Some place) S T c.status_of.result) (g.W.Wire.state w) (g.W.Wire.state v) S T (g.met.W.Wire.state_tells w) (g.met.W.Wire.state_tells v)
    (rw c.status_of.ensures (cause_of c.record_sessions-recorded.result.end place S T c.record_sessions-recorded.ensures.read_fault c.record_sessions-recorded.ensures.write_fault))

pub returns-clause-told : goal.returns-clause-told
returns-clause-told g c =
    by_parts (λ (S T : WireState). TellsWireFaults S T c.status_of.result) _ _ _ _ (g.met.W.Wire.state_tells c.args.wire.now) (g.met.W.Wire.state_tells c.record_sessions-recorded.new.wire)
    (rw c.status_of.ensures (end_told status_of c.record_sessions-recorded.result.end ends.ReadFault ends.WriteFault refl refl _ _ c.record_sessions-recorded.ensures.read_told c.record_sessions-recorded.ensures.write_told c.record_sessions-recorded.ensures.reach_faults))

pub returns-clause-reached : goal.returns-clause-reached
returns-clause-reached g c =
    by_parts StaysReached _ _ _ _ (g.met.W.Wire.state_tells c.args.wire.now) (g.met.W.Wire.state_tells c.record_sessions-recorded.new.wire) (record {
      reached = c.record_sessions-recorded.ensures.reached;
      reach_faults = c.record_sessions-recorded.ensures.reach_faults;
      reads = c.record_sessions-recorded.ensures.reading_never_falls;
      writes = c.record_sessions-recorded.ensures.writing_never_falls;
    })

pub returns-clause-why_missed : goal.returns-clause-why_missed
returns-clause-why_missed g c = λ stands.
    let r = c.record_sessions-recorded.result in
    rw (c.status_of.ensures, c.missing_of.ensures)
    (misses_sessions c.args.host.now c.args.folder.now (g.J.Store.state c.args.journal.now) (g.J.Store.state c.record_sessions-recorded.new.journal) (g.W.Wire.state c.args.wire.now) (g.W.Wire.state c.record_sessions-recorded.new.wire) r.end r.noted
    (c.record_sessions-recorded.ensures.recorded [] stands))

pub returns-clause-recorded : goal.returns-clause-recorded
returns-clause-recorded g c = λ stands.
    let r = c.record_sessions-recorded.result in
    rw (c.status_of.ensures, c.missing_of.ensures)
    (records_sessions c.args.host.now c.args.folder.now (g.J.Store.state c.args.journal.now) (g.J.Store.state c.record_sessions-recorded.new.journal) (g.W.Wire.state c.args.wire.now) (g.W.Wire.state c.record_sessions-recorded.new.wire) r.end r.noted
    stands (c.record_sessions-recorded.ensures.recorded [] stands))
