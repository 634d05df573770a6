use Rattle.std.proofs.Common.{◌≡◌, ◌∙◌, ap, sym}
use Rattle.anb_machine.specs.Machines.{gives}
use Rattle.anb_transcript.specs.declared.transcript.TranscriptLine.TheVariants.{In}
use Rattle.anb_transcript.proofs.Dues.{hears}
use Rattle.anb_transcript.proofs.following.hear.Goals as goal

pub returns-in-Ok-clause-covers : goal.returns-in-Ok-clause-covers
returns-in-Ok-clause-covers c =
    let is : c.args.line.now ≡ In c.in-Ok.arrival = c.in-In.is ∙ ap In (sym c.in-Ok.ensures) in
    hears (gives c.args.machine.now) (gives c.arrive.new.self) c.args.line.now c.in-Ok.arrival is c.requires.due c.arrive.ensures.gives
