use Rattle.std.proofs.Common.{ap, ◌∙◌}
use Rattle.anb_machine.specs.Machines.{gives}
use Rattle.anb_session.specs.Turns.{Ends}
use Rattle.anb_session.proofs.Turning.{by_told}
use Rattle.anb_branch.specs.Stems.{no_halt}
use Rattle.anb_branch.proofs.Placeless.{closes_placeless, tells_placeless}
use Rattle.anb_branch.proofs.recording.record_whole.Goals as goal

pub returns-clause-closes : goal.returns-clause-closes
returns-clause-closes g c =
    let s = g.W.Wire.state c.args.wire.now in
    let t = g.W.Wire.state c.record_play-end.new.wire in
    let R = gives c.args.machine.now in
    let end = c.record_play-end.result.end in
    let ends_so = by_told (λ a b d e. Ends R a b d e end) s _ t _ (g.met.W.Wire.state_tells c.args.wire.now) (g.met.W.Wire.state_tells c.record_play-end.new.wire) c.record_play-end.ensures.runs in
    rw c.no_halt.ensures (closes_placeless R s t end ends_so c.record_play-end.ensures.prompt)

pub returns-clause-faults : goal.returns-clause-faults
returns-clause-faults g c =
    rw c.no_halt.ensures (tells_placeless (g.W.Wire.state c.args.wire.now) (g.W.Wire.state c.record_play-end.new.wire) c.record_play-end.result.end c.record_play-end.ensures.faults)

pub returns-clause-recorded : goal.returns-clause-recorded
returns-clause-recorded g c = λ some. record {
  stop = c.record_play-end.result.end;
  is = c.no_halt.ensures;
  recorded = c.record_play-end.ensures.recorded (λ none. some (c.no_halt.ensures ∙ ap no_halt none));
}
