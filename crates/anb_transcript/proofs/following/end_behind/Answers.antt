use Rattle.std.proofs.Common.{rules, refl}
use Rattle.anb_transcript.proofs.Dues.{something_due}
use Rattle.anb_transcript.proofs.following.end_behind.Goals as goal
use Rattle.anb_transcript.proofs.following.end_behind.Goals.{in-Message, in-Done, in-Stopped, in-NoMemory}

pub returns : goal.returns
returns c = elim c.match-advance.branch [
  | in-Message w ↦
      let d = something_due c.args.machine.now c.advance.new.self c.advance.result c.advance.ensures.turned w.in-Message.is in
      rw w.result-is (d.0, d.1, d.2, refl)
  | in-Done w ↦ rw w.result-is (let t = rw w.in-Done.is at c.advance.ensures.turned in search rules)
  | in-Stopped w ↦ rw w.result-is (let t = rw w.in-Stopped.is at c.advance.ensures.turned in (refl, search rules))
  | in-NoMemory w ↦ rw w.result-is tt
]
