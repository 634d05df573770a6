use Rattle.std.proofs.Common.{rules, List, [], sym, subst}
use Rattle.anb_machine.specs.Machines.{gives}
use Rattle.anb_spoil.specs.Wrongs.{wrong_by}
use Rattle.anb_transcript.specs.declared.transcript.TranscriptLine.{TranscriptLine}
use Rattle.anb_partner.specs.Talks.{Talks}
use Rattle.anb_partner.proofs.conversing.talk_with.Goals as goal

pub returns-in-Ok-clause-talked : goal.returns-in-Ok-clause-talked
returns-in-Ok-clause-talked g c =
    let N = gives c.args.machine.now in
    let corrupt = wrong_by c.args.formats.now c.args.wrong in
    let pipes = g.T.Child.Wire.state c.args.child in
    let mid = g.T.Child.Wire.state c.talk-talked.new.child in
    let talked = rw c.in-Ok.is at c.talk-talked.ensures.talks in
    record {
      mid = mid;
      talks = subst (λ (l : List TranscriptLine). Talks N [] c.args.hook corrupt pipes mid l c.in-Ok.end) (sym c.new.ensures) talked;
      drained = (search rules);
      child = (search rules);
      silent = (search rules);
    }
