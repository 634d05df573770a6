use Rattle.anb_machine.specs.Machines.{gives}
use Rattle.anb_transcript.proofs.Dues.{ends_same}
use Rattle.anb_transcript.proofs.following.cover.Goals as goal

pub returns-in-Wants-clause-ends : goal.returns-in-Wants-clause-ends
returns-in-Wants-clause-ends c =
    ends_same (gives c.args.machine.now) (gives c.advance.new.self) c.in-Wants.ensures.turned.0 c.args.line.now c.args.number c.args.heard c.hear.result c.hear.ensures.ends
