use Rattle.std.proofs.Common.{sym, ◌∙◌, arith}
use Rattle.anb_lack.proofs.Sends.{never_sent, none_yet, sent_here}
use Rattle.anb_lack.proofs.listing.before_send.Goals as goal

pub returns-then-sends : goal.returns-then-sends
returns-then-sends c = sent_here c.args.action c.args.events.now c.loop-i.i c.index-events-i.result (omega arith) c.index-events-i.is (sym c.sends.ensures ∙ c.if-sends.true)

pub loop-i-preserved : goal.loop-i-preserved
loop-i-preserved c = none_yet c.args.action c.args.events.now c.loop-i.i c.index-events-i.result (omega arith) c.index-events-i.is (sym c.sends.ensures ∙ c.if-sends.false) c.loop-i.invariant

pub returns : goal.returns
returns c = never_sent c.args.action c.args.events.now c.loop-i.i (omega arith) c.loop-i.invariant
