use Rattle.std.proofs.Common.{ap, ◌∙◌}
use Rattle.anb_machine.specs.Machines.{gives}
use Rattle.anb_session.specs.Turns.{Ends}
use Rattle.anb_session.proofs.Turning.{by_told}
use Rattle.anb_branch.specs.Stems.{no_halt}
use Rattle.anb_branch.proofs.Placeless.{closes_placeless, tells_placeless}
use Rattle.anb_branch.proofs.stem.play_whole.Goals as goal

pub returns-clause-closes : goal.returns-clause-closes
returns-clause-closes g c =
    let s = g.W.Wire.state c.args.wire.now in
    let t = g.W.Wire.state c.play_all.new.wire in
    let R = gives (g.P.Playable.machine c.args.played.now) in
    let ends_so = by_told (λ a b d e. Ends R a b d e c.play_all.result) s _ t _ (g.met.W.Wire.state_tells c.args.wire.now) (g.met.W.Wire.state_tells c.play_all.new.wire) c.play_all.ensures.runs in
    rw c.no_halt.ensures (closes_placeless R s t c.play_all.result ends_so c.play_all.ensures.prompt)

pub returns-clause-came : goal.returns-clause-came
returns-clause-came g c = λ some.
    let came = c.play_all.ensures.came (λ none. some (c.no_halt.ensures ∙ ap no_halt none)) in
    record { stop = c.play_all.result; is = c.no_halt.ensures; used = came.used; follows = came.follows; first = came.first; stands = came.stands; awaits = c.play_all.ensures.awaits }

pub returns-clause-faults : goal.returns-clause-faults
returns-clause-faults g c =
    rw c.no_halt.ensures (tells_placeless (g.W.Wire.state c.args.wire.now) (g.W.Wire.state c.play_all.new.wire) c.play_all.result c.play_all.ensures.faults)
