use Rattle.std.proofs.Common.{◌≡◌, ◌-◌, ◌++◌, ◌∷◌, [], length, map, sym, ◌∙◌, arith}
use Rattle.std.proofs.lemmas.Result.{err_from_is_err_and}
use Rattle.std.proofs.lemmas.List.{map_push}
use Rattle.anb_syntax.specs.Views.{tree_of}
use Rattle.anb_read.specs.Productions.{term_at, comma_term_at, is_comma, many_within, with_front}
use Rattle.anb_read.specs.Places.{toks}
use Rattle.anb_read.proofs.Walks.{goes_on, is_done, is_over, ends_so, whole}
use Rattle.anb_read.proofs.Leveled.{at_no_level, at_hash, at_mac, at_seal, at_wrap, at_name}
use Rattle.anb_read.proofs.terms.+term.Goals as goal

pub more_terms-returns-then-not-is_sign : goal.more_terms-returns-then-not-is_sign
more_terms-returns-then-not-is_sign t c =
    whole is_comma (comma_term_at (term_at c.args.levels)) c.args.text.now c.args.places.now (map tree_of c.args.items.items)
    ∙ is_done is_comma (comma_term_at (term_at c.args.levels)) (map tree_of c.loop.items.items) (length c.args.places.now - c.loop.counter) (toks c.args.text.now c.loop.rest.now) (with_front (map tree_of c.args.items.items) (many_within is_comma (comma_term_at (term_at c.args.levels)) (length c.args.places.now) (toks c.args.text.now c.args.places.now))) (sym c.if-not-is_sign.ensures) c.loop.invariant

pub more_terms-returns-in_err-item : goal.more_terms-returns-in_err-item
more_terms-returns-in_err-item t c =
    let p = err_from_is_err_and c.from_residual.result c.from_residual.ensures.1 in
    rw (p.1, p.2, (whole is_comma (comma_term_at (term_at c.args.levels)) c.args.text.now c.args.places.now (map tree_of c.args.items.items)))
    (ends_so is_comma (comma_term_at (term_at c.args.levels)) c.in_err-item.field-0.0 (map tree_of c.loop.items.items) (length c.args.places.now) c.loop.counter (toks c.args.text.now c.loop.rest.now) (with_front (map tree_of c.args.items.items) (many_within is_comma (comma_term_at (term_at c.args.levels)) (length c.args.places.now) (toks c.args.text.now c.args.places.now))) c.loop-test.true (sym c.if-not-is_sign.ensures) c.in_err-item.ensures c.loop.invariant)

pub more_terms-loop-preserved : goal.more_terms-loop-preserved
more_terms-loop-preserved t c =
    let e : map tree_of c.push.new.self.items ≡ map tree_of c.loop.items.items ++ tree_of c.in_ok-item.item ∷ [] = rw c.in_ok-push.ensures.items (map_push _ c.loop.items.items c.in_ok-item.item) in
    rw e
    (goes_on is_comma (comma_term_at (term_at c.args.levels)) (map tree_of c.loop.items.items) (length c.args.places.now) c.loop.counter (toks c.args.text.now c.loop.rest.now) (tree_of c.in_ok-item.item) (toks c.args.text.now c.in_ok-item.after.now) (with_front (map tree_of c.args.items.items) (many_within is_comma (comma_term_at (term_at c.args.levels)) (length c.args.places.now) (toks c.args.text.now c.args.places.now))) c.loop-test.true (sym c.if-not-is_sign.ensures) c.in_ok-item.ensures c.loop.invariant)

pub more_terms-returns : goal.more_terms-returns
more_terms-returns t c =
    let over : length c.args.places.now - c.loop.counter ≡ 0 = omega (arith, c.loop-test.false) in
    whole is_comma (comma_term_at (term_at c.args.levels)) c.args.text.now c.args.places.now (map tree_of c.args.items.items)
    ∙ is_over is_comma (comma_term_at (term_at c.args.levels)) (map tree_of c.loop.items.items) (length c.args.places.now - c.loop.counter) (toks c.args.text.now c.loop.rest.now) (with_front (map tree_of c.args.items.items) (many_within is_comma (comma_term_at (term_at c.args.levels)) (length c.args.places.now) (toks c.args.text.now c.args.places.now))) over c.loop.invariant

pub term-returns-then-levels-eq0 : goal.term-returns-then-levels-eq0
term-returns-then-levels-eq0 t c = at_no_level c.args.levels (toks c.args.text.now c.args.places.now) c.no_level.result c.if-levels-eq0.true c.no_level.ensures

pub term-returns-then-is_word : goal.term-returns-then-is_word
term-returns-then-is_word t c = rw (at_hash c.args.levels (toks c.args.text.now c.args.places.now) (omega arith) (sym c.if-is_word.ensures)) c.hashed.ensures

pub term-returns-then-is_word-2 : goal.term-returns-then-is_word-2
term-returns-then-is_word-2 t c = rw (at_mac c.args.levels (toks c.args.text.now c.args.places.now) (omega arith) (sym c.if-is_word.ensures) (sym c.if-is_word-2.ensures)) c.under_key.ensures

pub term-returns-then-is_word-3 : goal.term-returns-then-is_word-3
term-returns-then-is_word-3 t c = rw (at_seal c.args.levels (toks c.args.text.now c.args.places.now) (omega arith) (sym c.if-is_word.ensures) (sym c.if-is_word-2.ensures) (sym c.if-is_word-3.ensures)) c.under_key-then-is_word-3.ensures

pub term-returns-then-is_word-4 : goal.term-returns-then-is_word-4
term-returns-then-is_word-4 t c = rw (at_wrap c.args.levels (toks c.args.text.now c.args.places.now) (omega arith) (sym c.if-is_word.ensures) (sym c.if-is_word-2.ensures) (sym c.if-is_word-3.ensures) (sym c.if-is_word-4.ensures)) c.wrapped.ensures

pub term-returns-else-is_word-4 : goal.term-returns-else-is_word-4
term-returns-else-is_word-4 t c = rw (at_name c.args.levels (toks c.args.text.now c.args.places.now) (omega arith) (sym c.if-is_word.ensures) (sym c.if-is_word-2.ensures) (sym c.if-is_word-3.ensures) (sym c.if-is_word-4.ensures)) c.named.ensures
