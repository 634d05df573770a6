use Rattle.std.proofs.Common.{Some, ap, refl, subst}
use Rattle.anb_base.specs.Wires.{WireState}
use Rattle.anb_host.specs.HostFrames.{FramesLeft}
use Rattle.anb_host.specs.declared.serving.HostEnd.TheVariants as ends
use Rattle.anb_command.specs.Causes.{HasWireCause}
use Rattle.anb_command.specs.OverWire.{StaysReached}
use Rattle.anb_command.specs.Reported.{TellsWireFaults}
use Rattle.anb_command.proofs.OverWire.{by_parts}
use Rattle.anb_command.proofs.Reported.{end_told}
use Rattle.anb_command.proofs.States.{telling}
use Rattle.anb_host_commands.specs.Serving.{status_of}
use Rattle.anb_host_commands.proofs.Reached.{after_of, cause_of}
use Rattle.anb_host_commands.proofs.hosting.serve_now.Goals as goal

pub returns-clause-serves : goal.returns-clause-serves
returns-clause-serves g c = λ past events tail stands left. (
  c.serve.result,
  c.status_of.ensures,
  c.serve.ensures.serves past events tail stands (subst (λ l. FramesLeft l events tail) (ap (λ (s : WireState). s.left) (g.met.W.Wire.state_tells c.args.wire.now)) left),
)

pub returns-clause-after : goal.returns-clause-after
returns-clause-after g c = rw c.status_of.ensures (after_of c.serve.result)

pub returns-clause-cause : goal.returns-clause-cause
returns-clause-cause g c = λ place.
    let w = c.args.wire.now in
    let v = c.serve.new.wire in
    let S = telling (g.W.Source.left w) (g.W.Source.taken_at w) (g.W.Source.faults w) (g.W.Sink.written w) (g.W.Sink.faults w) (g.W.Wire.reached w) (g.W.Wire.reach_faults w) in
    let T = telling (g.W.Source.left v) (g.W.Source.taken_at v) (g.W.Source.faults v) (g.W.Sink.written v) (g.W.Sink.faults v) (g.W.Wire.reached v) (g.W.Wire.reach_faults v) in
    by_parts (λ (S T : WireState). HasWireCause (Some place) S T c.status_of.result) (g.W.Wire.state w) (g.W.Wire.state v) S T (g.met.W.Wire.state_tells w) (g.met.W.Wire.state_tells v)
    (rw c.status_of.ensures (cause_of c.serve.result place S T c.serve.ensures.read_fault c.serve.ensures.write_fault))

pub returns-clause-told : goal.returns-clause-told
returns-clause-told g c =
    by_parts (λ (S T : WireState). TellsWireFaults S T c.status_of.result) _ _ _ _ (g.met.W.Wire.state_tells c.args.wire.now) (g.met.W.Wire.state_tells c.serve.new.wire)
    (rw c.status_of.ensures (end_told status_of c.serve.result ends.ReadFault ends.WriteFault refl refl _ _ c.serve.ensures.read_told c.serve.ensures.write_told c.serve.ensures.reach_faults))

pub returns-clause-reached : goal.returns-clause-reached
returns-clause-reached g c =
    by_parts StaysReached _ _ _ _ (g.met.W.Wire.state_tells c.args.wire.now) (g.met.W.Wire.state_tells c.serve.new.wire) (record {
      reached = c.serve.ensures.reached;
      reach_faults = c.serve.ensures.reach_faults;
      reads = c.serve.ensures.reading_never_falls;
      writes = c.serve.ensures.writing_never_falls;
    })
