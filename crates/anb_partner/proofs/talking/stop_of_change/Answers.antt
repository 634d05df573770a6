use Rattle.std.proofs.Common.{[], List, ap, subst, arith, length, Some}
use Rattle.anb_machine.specs.Machines.{gives}
use Rattle.anb_transcript.specs.declared.transcript.TranscriptLine.{TranscriptLine}
use Rattle.anb_spoil.specs.Wrongs.{wrong_by}
use Rattle.anb_partner.specs.Steps.{GoesOnBy, IsOver}
use Rattle.anb_partner.proofs.Going.{hooked_talk, plain_talk, talk_at_hook}
use Rattle.anb_partner.proofs.talking.stop_of_change.Goals as goal

pub returns-in-Ok-change_value-clause-talk : goal.returns-in-Ok-change_value-clause-talk
returns-in-Ok-change_value-clause-talk g c =
    let s = g.W.Wire.state c.args.child.now in
    let t = g.W.Wire.state c.go_on.new.child in
    let u = g.W.Wire.state c.go_to_end.new.child in
    let R = gives c.args.machine.now in
    let N = gives c.go_on.new.machine in
    let one = subst (λ (l : List TranscriptLine). GoesOnBy c.args.before R N l c.go_on.new.lines.items s t) c.requires.none c.in-Ok.ensures.goes_on in
    hooked_talk R N (gives c.change_value.new.machine) c.go_on.new.lines.items c.go_to_end.new.lines.items s t u c.args.before (wrong_by c.args.formats.now c.args.wrong) one c.in-Ok-change_value.ensures.changed
    c.go_to_end.ensures.few c.go_to_end.result (c.go_to_end.ensures.over (wrong_by c.args.formats.now c.args.wrong))

pub returns-in-Err-change_value-clause-talk : goal.returns-in-Err-change_value-clause-talk
returns-in-Err-change_value-clause-talk g c =
    let s = g.W.Wire.state c.args.child.now in
    let t = g.W.Wire.state c.go_on.new.child in
    let R = gives c.args.machine.now in
    let N = gives c.go_on.new.machine in
    let one = subst (λ (l : List TranscriptLine). GoesOnBy c.args.before R N l c.go_on.new.lines.items s t) c.requires.none c.in-Ok.ensures.goes_on in
    talk_at_hook R N c.go_on.new.lines.items s t c.args.before (wrong_by c.args.formats.now c.args.wrong) c.in-Err-change_value.stop one c.go_on.ensures.few (c.in-Err-change_value.ensures.over t)

pub returns-in-Err-clause-talk : goal.returns-in-Err-clause-talk
returns-in-Err-clause-talk g c =
    let s = g.W.Wire.state c.args.child.now in
    let t = g.W.Wire.state c.go_on.new.child in
    let R = gives c.args.machine.now in
    let over = subst (λ (l : List TranscriptLine). IsOver R l c.go_on.new.lines.items s t (wrong_by c.args.formats.now c.args.wrong) c.in-Err.stop) c.requires.none (c.in-Err.ensures.over (wrong_by c.args.formats.now c.args.wrong)) in
    plain_talk R c.go_on.new.lines.items s t (Some c.args.before) (wrong_by c.args.formats.now c.args.wrong) c.in-Err.stop (omega (arith, ap length c.requires.none, c.go_on.ensures.most)) c.go_on.ensures.few over
