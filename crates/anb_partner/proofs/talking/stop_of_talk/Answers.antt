use Rattle.std.proofs.Common.{ℕ, List, Option, None, subst, sym}
use Rattle.anb_machine.specs.Machines.{gives}
use Rattle.anb_transcript.specs.declared.transcript.TranscriptLine.{TranscriptLine}
use Rattle.anb_spoil.specs.Wrongs.{wrong_by}
use Rattle.anb_partner.specs.Steps.{IsOver, IsTalk}
use Rattle.anb_partner.proofs.Going.{plain_talk}
use Rattle.anb_partner.proofs.talking.stop_of_talk.Goals as goal

pub returns-in-None-clause-talk : goal.returns-in-None-clause-talk
returns-in-None-clause-talk g c =
    let s = g.W.Wire.state c.args.child.now in
    let t = g.W.Wire.state c.go_to_end.new.child in
    let R = gives c.args.machine.now in
    let over = subst (λ (l : List TranscriptLine). IsOver R l c.go_to_end.new.lines.items s t (wrong_by c.args.formats.now c.args.wrong) c.go_to_end.result) c.requires.none (c.go_to_end.ensures.over (wrong_by c.args.formats.now c.args.wrong)) in
    subst (λ (h : Option ℕ). IsTalk R h (wrong_by c.args.formats.now c.args.wrong) s t c.go_to_end.new.lines.items c.go_to_end.result) (sym c.in-None.is)
    (plain_talk R c.go_to_end.new.lines.items s t None (wrong_by c.args.formats.now c.args.wrong) c.go_to_end.result tt c.go_to_end.ensures.few over)
