use Rattle.std.proofs.Common.{arith}
use Rattle.anb_term.proofs.Lists.{one_size}
use Rattle.anb_close.specs.Entries.{labels_of}
use Rattle.anb_protocol.proofs.TextLemmas.{term_at}
use Rattle.anb_reason.proofs.Finding.{found_next}
use Rattle.anb_reason.proofs.found.+subterms.Goals as goal

pub find_in_all-find_subterms-requires : goal.find_in_all-find_subterms-requires
find_in_all-find_subterms-requires t c =
    let ts = c.args.terms.now in
    let here = one_size ts c.loop-term.term-index c.term-item.result (omega arith) c.term-item.is in
    (omega (arith, here, c.decreases), (c.requires.labels, term_at c.args.p.now ts c.loop-term.term-index c.term-item.result (omega arith) c.term-item.is c.requires.terms))

pub find_in_all-loop-term-preserved : goal.find_in_all-loop-term-preserved
find_in_all-loop-term-preserved t c protocol =
    found_next c.args.p.now (labels_of c.args.closure.now) c.args.terms.now c.loop-term.term-index c.term-item.result c.args.found.now c.loop-term.found c.find_subterms.new.found (omega arith) c.term-item.is
    (c.loop-term.invariant protocol) (c.in_ok-find_subterms.ensures protocol)
