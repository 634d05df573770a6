use Rattle.std.proofs.Common.{length, ap, arith}
use Rattle.anb_park.proofs.Framed.{four_at_least, begins_so}
use Rattle.anb_park.proofs.body.split_frame.Goals.{then-len-gt-ARRIVAL-via-then-len-gt-ARRIVAL, then-len-gt-ARRIVAL-via-else-len-gt-ARRIVAL+then-len-rest}
use Rattle.anb_park.proofs.body.split_frame.Goals as goal

pub returns-then-bytes-lt4-clause-again : goal.returns-then-bytes-lt4-clause-again
returns-then-bytes-lt4-clause-again c = λ b rest fits e. absurd (omega (arith, c.if-bytes-lt4.true, ap length e, four_at_least b rest))

pub returns-then-len-gt-ARRIVAL-clause-again : goal.returns-then-len-gt-ARRIVAL-clause-again
returns-then-len-gt-ARRIVAL-clause-again c = λ b rest fits e.
    let s = begins_so c.args.bytes.now c.split_at.result.0.now c.split_at.result.1.now b rest c.number_of-len.result (omega (arith, c.number_of-len.type_inv)) c.split_at.ensures.front c.split_at.ensures.back c.number_of-len.ensures fits e in
    absurd (elim c.then-len-gt-ARRIVAL.branch [
      | then-len-gt-ARRIVAL-via-then-len-gt-ARRIVAL w ↦ omega (arith, w.if-len-gt-ARRIVAL.true, s.0, fits)
      | then-len-gt-ARRIVAL-via-else-len-gt-ARRIVAL+then-len-rest w ↦ omega (arith, w.if-len-rest.true, s.0, s.1)
    ])
