use Rattle.std.proofs.Common.{arith}
use Rattle.anb_term.proofs.Lists.{slice_get-at}
use Rattle.anb_report.proofs.Numbered.{numbered_next}
use Rattle.anb_report.proofs.news.numbers_of.Goals as goal

pub loop-term-preserved : goal.loop-term-preserved
loop-term-preserved c =
    let terms = c.args.terms.now in
    let i = c.loop-term.term-index in
    let x = c.term-item.result in
    let more = c.in-Ok.ensures.more in
    let next = numbered_next c.loop-term.pool more.more c.put_term.new.self terms i x c.loop-term.items.items c.in-Ok.id.0 more.is c.loop-term.invariant
    (slice_get-at terms i x (omega arith) c.term-item.is) c.in-Ok.ensures.stored in
    rw c.in_ok-push.ensures.items next
