use Rattle.std.proofs.Common.{◌≡◌, ◌-◌, ◌++◌, ◌∷◌, [], length, map, sym, ◌∙◌, arith}
use Rattle.std.proofs.lemmas.Result.{err_from_is_err_and}
use Rattle.std.proofs.lemmas.List.{map_push}
use Rattle.anb_read.specs.Productions.{many_within, with_front}
use Rattle.anb_read.specs.Places.{toks}
use Rattle.anb_read.proofs.Walks.{goes_on, is_done, is_over, ends_so, whole}
use Rattle.anb_read.proofs.lists.many.Goals as goal

pub returns-then-not-begins : goal.returns-then-not-begins
returns-then-not-begins g c =
    whole g.T.Listed.starts g.T.Listed.item_at c.args.text.now c.args.places.now (map g.T.Listed.view c.args.items.items)
    ∙ is_done g.T.Listed.starts g.T.Listed.item_at (map g.T.Listed.view c.loop.items.items) (length c.args.places.now - c.loop.counter) (toks c.args.text.now c.loop.rest.now) (with_front (map g.T.Listed.view c.args.items.items) (many_within g.T.Listed.starts g.T.Listed.item_at (length c.args.places.now) (toks c.args.text.now c.args.places.now))) (sym c.if-not-begins.ensures) c.loop.invariant

pub returns-in_err-item : goal.returns-in_err-item
returns-in_err-item g c =
    let p = err_from_is_err_and c.from_residual.result c.from_residual.ensures.1 in
    rw (p.1, p.2, (whole g.T.Listed.starts g.T.Listed.item_at c.args.text.now c.args.places.now (map g.T.Listed.view c.args.items.items)))
    (ends_so g.T.Listed.starts g.T.Listed.item_at c.in_err-item.field-0.0 (map g.T.Listed.view c.loop.items.items) (length c.args.places.now) c.loop.counter (toks c.args.text.now c.loop.rest.now) (with_front (map g.T.Listed.view c.args.items.items) (many_within g.T.Listed.starts g.T.Listed.item_at (length c.args.places.now) (toks c.args.text.now c.args.places.now))) c.loop-test.true (sym c.if-not-begins.ensures) c.in_err-item.ensures c.loop.invariant)

pub loop-preserved : goal.loop-preserved
loop-preserved g c =
    let e : map g.T.Listed.view c.push.new.self.items ≡ map g.T.Listed.view c.loop.items.items ++ g.T.Listed.view c.in_ok-item.item ∷ [] = rw c.in_ok-push.ensures.items (map_push _ c.loop.items.items c.in_ok-item.item) in
    rw e
    (goes_on g.T.Listed.starts g.T.Listed.item_at (map g.T.Listed.view c.loop.items.items) (length c.args.places.now) c.loop.counter (toks c.args.text.now c.loop.rest.now) (g.T.Listed.view c.in_ok-item.item) (toks c.args.text.now c.in_ok-item.after.now) (with_front (map g.T.Listed.view c.args.items.items) (many_within g.T.Listed.starts g.T.Listed.item_at (length c.args.places.now) (toks c.args.text.now c.args.places.now))) c.loop-test.true (sym c.if-not-begins.ensures) c.in_ok-item.ensures c.loop.invariant)

pub returns : goal.returns
returns g c =
    let over : length c.args.places.now - c.loop.counter ≡ 0 = omega (arith, c.loop-test.false) in
    whole g.T.Listed.starts g.T.Listed.item_at c.args.text.now c.args.places.now (map g.T.Listed.view c.args.items.items)
    ∙ is_over g.T.Listed.starts g.T.Listed.item_at (map g.T.Listed.view c.loop.items.items) (length c.args.places.now - c.loop.counter) (toks c.args.text.now c.loop.rest.now) (with_front (map g.T.Listed.view c.args.items.items) (many_within g.T.Listed.starts g.T.Listed.item_at (length c.args.places.now) (toks c.args.text.now c.args.places.now))) over c.loop.invariant
