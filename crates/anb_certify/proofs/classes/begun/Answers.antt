use Rattle.std.proofs.Common.{arith, Some, ap, ◌∙◌}
use Rattle.anb_lemmas.proofs.Lists.{got_within, lists_same}
use Rattle.anb_term.proofs.Lists.{slice_get-there}
use Rattle.anb_certify.proofs.Falling.{begun_low, begun_flat}
use Rattle.anb_certify.proofs.classes.begun.Goals as goal

pub returns-clause-all : goal.returns-clause-all
returns-clause-all c all =
    let flags = c.args.flags.now in
    let names = c.loop-i.names.items in
    lists_same names c.args.firsts.now (omega (arith, c.loop-i.invariant.count, c.loop-i.auto.i-end, c.loop-i-test.false))
    (λ i n e.
    let x = slice_get-there flags i (omega (arith, got_within names i n e, c.requires.long, c.loop-i.invariant.count, c.loop-i.auto.i-end, c.loop-i-test.false)) in
    c.loop-i.invariant.begun.flagged i n e (x.1 ∙ ap Some (all i x.0 x.1)))

pub returns-clause-low : goal.returns-clause-low
returns-clause-low c low = begun_low c.args.firsts.now c.args.flags.now c.loop-i.names.items c.loop-i.invariant.begun low

pub returns-clause-flat : goal.returns-clause-flat
returns-clause-flat c flat =
    begun_flat c.args.firsts.now c.args.flags.now c.loop-i.names.items (omega (arith, c.loop-i.invariant.count, c.loop-i.auto.i-end, c.loop-i-test.false)) c.loop-i.invariant.begun flat
