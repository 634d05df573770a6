use Rattle.std.proofs.Common.{true, false, arith}
use Rattle.anb_basis.proofs.Comparing.{term_here}
use Rattle.anb_basis.proofs.Marks.{mark_is}
use Rattle.anb_basis.proofs.Ordering.{no_equals}
use Rattle.anb_basis.proofs.adding.add_equal.Goals as goal

pub returns-then-index-clause-marked : goal.returns-then-index-clause-marked
returns-then-index-clause-marked c d k = mark_is c.args.marks.now.items c.args.i c.index.result.now true (omega (arith, c.requires.given.long, c.requires.within)) c.index.ensures c.if-index.true

pub returns-then-index-clause-compared : goal.returns-then-index-clause-compared
returns-then-index-clause-compared c = no_equals c.args.given.now.items

pub compared_with-requires : goal.compared_with-requires
compared_with-requires c =
    let x = term_here c.args.closure.now c.entries-entries.result.now c.args.i c.index-entries-i.result c.entries-entries.ensures.same c.requires.within c.index-entries-i.is in
    rw (← c.index-entries-i.is) x

pub add_check-requires-clause-unmarked : goal.add_check-requires-clause-unmarked
add_check-requires-clause-unmarked c = mark_is c.args.marks.now.items c.args.i c.index.result.now false (omega (arith, c.requires.given.long, c.requires.within)) c.index.ensures c.if-index.false

pub returns-in-None-clause-marked : goal.returns-in-None-clause-marked
returns-in-None-clause-marked c d k = absurd ((rw c.in-None.is at c.in_ok-compared_with.ensures) d k)

pub returns-in-None-clause-compared : goal.returns-in-None-clause-compared
returns-in-None-clause-compared c = no_equals c.args.given.now.items
