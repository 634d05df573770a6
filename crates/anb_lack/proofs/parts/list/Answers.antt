use Rattle.std.proofs.Common.{arith, sym, ◌∙◌, refl, true, false}
use Rattle.anb_lack.proofs.Parting.{flag_read, listed_last, listed_next, passed_next}
use Rattle.anb_lack.proofs.parts.list.Goals as goal

pub returns-then-index-clause-listing : goal.returns-then-index-clause-listing
returns-then-index-clause-listing c S seen t at listing =
    let on = flag_read c.args.flags.now.items c.args.id.0 _ true (omega (arith, c.requires.within, c.requires.long)) (sym c.index.ensures ∙ c.if-index.true) in
    passed_next S c.args.pool.now c.len.ensures.distinct c.args.flags.now.items seen _ listing c.args.id.0 t at on

pub returns-clause-listing : goal.returns-clause-listing
returns-clause-listing c S seen t at listing =
    let off = flag_read c.args.flags.now.items c.args.id.0 _ false (omega (arith, c.requires.within, c.requires.long)) (sym c.index.ensures ∙ c.if-index.false) in
    let last = listed_last c.args.pool.now c.args.id.0 t c.args.terms.now.items _ c.in_ok-term.term at c.in_ok-term.ensures c.in_ok-push.ensures.items in
    listed_next S c.args.pool.now c.len.ensures.distinct c.args.flags.now.items seen _ listing c.args.id.0 t at _ _ off refl last
