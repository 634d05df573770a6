use Rattle.std.proofs.Common.{arith, sym, ap, ◌∙◌, length, Some}
use Rattle.anb_intern.proofs.Nodes.{over_more}
use Rattle.anb_term.proofs.Lists.{slice_get-at}
use Rattle.anb_close.specs.Standings.{is_ready}
use Rattle.anb_close.proofs.Spreading.{visit_past, visit_entry, visit_built, visit_unready, visit_new, places_set}
use Rattle.anb_close.proofs.spread.visit.Goals as goal

pub returns-then-n-len-clause-ok : goal.returns-then-n-len-clause-ok
returns-then-n-len-clause-ok c = visit_past c.args.pool.now c.args.standings.now.items c.args.work.now.items c.args.told.now.items c.args.n c.requires.long (omega (arith, c.args.standings.now.ok.0))

pub is_ready-requires : goal.is_ready-requires
is_ready-requires c = record { over = over_more c.args.n (length c.deref.result.now) c.get.result.now (omega (arith, ap length c.deref.ensures.value)) c.get.ensures.before }

pub returns-then-not-is_ready-clause-ok : goal.returns-then-not-is_ready-clause-ok
returns-then-not-is_ready-clause-ok c =
    let ss = c.args.standings.now.items in
    let here = slice_get-at ss c.args.n c.index.result.now (omega (arith, c.args.standings.now.ok.0)) c.index.ensures ∙ ap Some c.in-Nowhere.is in
    visit_unready c.args.pool.now ss c.args.work.now.items c.args.told.now.items c.args.n here c.len-2.ensures.distinct (omega (arith, c.requires.long, c.args.standings.now.ok.0)) c.get.result.now c.get.ensures.stands c.get.ensures.before
    (ap (λ l. is_ready l c.get.result.now) (sym c.deref.ensures.value) ∙ sym c.is_ready.ensures ∙ c.if-not-is_ready.true)

pub returns-in_ok-push-in-At-clause-ok : goal.returns-in_ok-push-in-At-clause-ok
returns-in_ok-push-in-At-clause-ok c =
    let ss = c.args.standings.now.items in
    let here = slice_get-at ss c.args.n c.index.result.now (omega (arith, c.args.standings.now.ok.0)) c.index.ensures ∙ ap Some c.in-At.is in
    visit_entry c.args.pool.now ss c.args.work.now.items c.args.told.now.items c.args.n c.in-At.i c.push.new.self.items here c.in_ok-push-in-At.ensures.items

pub returns-in-Built-clause-ok : goal.returns-in-Built-clause-ok
returns-in-Built-clause-ok c =
    let ss = c.args.standings.now.items in
    let here = slice_get-at ss c.args.n c.index.result.now (omega (arith, c.args.standings.now.ok.0)) c.index.ensures ∙ ap Some c.in-Built.is in
    visit_built c.args.pool.now ss c.args.work.now.items c.args.told.now.items c.args.n here

pub returns-in_ok-push-in-Nowhere-clause-places : goal.returns-in_ok-push-in-Nowhere-clause-places
returns-in_ok-push-in-Nowhere-clause-places c rs =
    let ss = c.args.standings.now.items in
    let here = slice_get-at ss c.args.n c.index.result.now (omega (arith, c.args.standings.now.ok.0)) c.index.ensures ∙ ap Some c.in-Nowhere.is in
    places_set rs c.args.pool.now ss c.args.n here

pub returns-in_ok-push-in-Nowhere-clause-ok : goal.returns-in_ok-push-in-Nowhere-clause-ok
returns-in_ok-push-in-Nowhere-clause-ok c =
    let ss = c.args.standings.now.items in
    let here = slice_get-at ss c.args.n c.index.result.now (omega (arith, c.args.standings.now.ok.0)) c.index.ensures ∙ ap Some c.in-Nowhere.is in
    visit_new c.args.pool.now ss c.args.work.now.items c.args.told.now.items c.args.n here c.len-2.ensures.distinct (omega (arith, c.requires.long, c.args.standings.now.ok.0)) c.get.result.now c.push-in-Nowhere.new.self.items c.get.ensures.stands c.get.ensures.before
    (ap (λ l. is_ready l c.get.result.now) (sym c.deref.ensures.value) ∙ sym c.is_ready.ensures ∙ c.if-not-is_ready.false) c.in_ok-push-in-Nowhere.ensures.items
