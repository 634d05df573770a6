use Rattle.std.proofs.Common.{◌≡◌, ◌≤◌}
use Rattle.anb_host.specs.Runs.{Handled}
use Rattle.anb_host.proofs.serving.serve_on.Given as goal

abbrev pub invariant-loop : goal.invariant-loop
invariant-loop g l = record {
  handled : Handled (λ events. g.H.Servable.Follows l.fn.host events l.host) (g.H.Servable.host l.fn.host) (g.H.Servable.host l.host) (g.W.Wire.state l.fn.wire) (g.W.Wire.state l.wire) l.counter;
  quiet_reading : g.W.Source.faults l.wire ≡ g.W.Source.faults l.fn.wire;
  quiet_writing : g.W.Sink.faults l.wire ≡ g.W.Sink.faults l.fn.wire;
  code : (g.H.Servable.host l.host).code ≡ (g.H.Servable.host l.fn.host).code;
  init : (g.H.Servable.host l.host).init ≡ (g.H.Servable.host l.fn.host).init;
  seed : (g.H.Servable.host l.host).seed ≡ (g.H.Servable.host l.fn.host).seed;
  reading : g.W.Source.faults l.fn.wire ≤ g.W.Source.faults l.wire;
  writing : g.W.Sink.faults l.fn.wire ≤ g.W.Sink.faults l.wire;
  reached : g.W.Wire.reached l.wire ≡ g.W.Wire.reached l.fn.wire;
  reach_faults : g.W.Wire.reach_faults l.wire ≡ g.W.Wire.reach_faults l.fn.wire;
}
