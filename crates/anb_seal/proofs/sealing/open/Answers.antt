use Rattle.std.proofs.Common.{rules, ◌≡◌, length, ap, sym, ◌∙◌, arith}
use Rattle.anb_seal.specs.Primitives.{tag_of, closed}
use Rattle.anb_seal.proofs.sealing.open.Goals as goal
use Rattle.anb_seal.proofs.Closed.{length-closed, rest_is_message, front_is_tag, closes, is_opened, none_opened}

pub returns-then-c-lt-TAG-clause-none : goal.returns-then-c-lt-TAG-clause-none
returns-then-c-lt-TAG-clause-none g c m e = omega (arith, ap length e, length-closed g.H.SuiteHash.suite c.args.stream_key.now c.args.tag_key.now c.args.head.now m, c.if-c-lt-TAG.true)

pub returns-then-eq-clause-some : goal.returns-then-eq-clause-some
returns-then-eq-clause-some g c =
    let suite = g.H.SuiteHash.suite in
    let body = rw (c.split_at.ensures.front, c.split_at.ensures.back) at c.in_ok-m.ensures in
    let same : c.as_slice.result.now ≡ c.split_at.result.0.now = search rules in
    let tag = ap (tag_of suite c.args.tag_key.now c.args.head.now) (sym c.deref.ensures.value) ∙ sym c.short_mac.ensures ∙ sym c.as_slice.ensures ∙ same ∙ c.split_at.ensures.front in
    ap (closed suite c.args.stream_key.now c.args.tag_key.now c.args.head.now) c.new.ensures
    ∙ closes suite c.args.stream_key.now c.args.tag_key.now c.args.head.now c.args.c.now c.in_ok-m.m.items (sym body) tag

pub returns-else-eq-clause-none : goal.returns-else-eq-clause-none
returns-else-eq-clause-none g c m e =
    let suite = g.H.SuiteHash.suite in
    let body = rw (c.split_at.ensures.front, c.split_at.ensures.back) at c.in_ok-m.ensures in
    let is_m : c.in_ok-m.m.items ≡ m = body ∙ rest_is_message suite c.args.stream_key.now c.args.tag_key.now c.args.head.now c.args.c.now m e in
    let same : c.as_slice.result.now ≡ c.split_at.result.0.now =
    c.as_slice.ensures ∙ c.short_mac.ensures ∙ ap (tag_of suite c.args.tag_key.now c.args.head.now) (c.deref.ensures.value ∙ is_m)
    ∙ sym (front_is_tag suite c.args.stream_key.now c.args.tag_key.now c.args.head.now c.args.c.now m e) ∙ sym c.split_at.ensures.front in
    let no = c.if-eq.ensures in search rules

pub returns-then-c-lt-TAG-clause-computed : goal.returns-then-c-lt-TAG-clause-computed
returns-then-c-lt-TAG-clause-computed g c =
    none_opened g.H.SuiteHash.suite c.args.stream_key.now c.args.tag_key.now c.args.head.now c.args.c.now (returns-then-c-lt-TAG-clause-none g c)

pub returns-then-eq-clause-computed : goal.returns-then-eq-clause-computed
returns-then-eq-clause-computed g c =
    is_opened g.H.SuiteHash.suite c.args.stream_key.now c.args.tag_key.now c.args.head.now c.args.c.now c.new.result (returns-then-eq-clause-some g c)

pub returns-else-eq-clause-computed : goal.returns-else-eq-clause-computed
returns-else-eq-clause-computed g c =
    none_opened g.H.SuiteHash.suite c.args.stream_key.now c.args.tag_key.now c.args.head.now c.args.c.now (returns-else-eq-clause-none g c)
