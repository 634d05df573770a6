use Rattle.std.proofs.Common.{sym, ap, ◌∙◌, arith}
use Rattle.anb_choice.specs.Order.{ends_looking}
use Rattle.anb_choice.proofs.Looking.{bad_within, end_within, ends_bad, ends_end, ends_token, gone_token, token_within}
use Rattle.anb_choice.proofs.Places.{grown, stand_more}
use Rattle.anb_choice.proofs.marks.marks.Goals as goal

pub tokens-preserved : goal.tokens-preserved
tokens-preserved c =
    let x = c.args.text.now in
    let on = ap ends_looking (sym c.token_kind-kind.ensures) ∙ sym c.ends_looking.ensures ∙ c.if-ends_looking.false in
    record {
      count = omega (arith, grown _ _ _ c.in_ok-push-in-Token.ensures.items, c.tokens.invariant.count, c.in-Token.ensures.within.0, c.in-Token.ensures.next.0);
      high = c.in-Token.ensures.within.1;
      gone = rw (c.in_ok-push-in-Token.ensures.items, c.token_kind-kind.ensures)
          (gone_token x c.tokens.from c.tokens.marks.items c.tokens.invariant.gone c.in-Token.token c.in-Token.ensures.next on);
      stand = rw (c.in_ok-push-in-Token.ensures.items, c.token_kind-kind.ensures)
          (stand_more x 0 c.tokens.marks.items c.tokens.from _ c.tokens.invariant.stand
          (token_within x c.tokens.from c.in-Token.token c.in-Token.ensures.next c.in-Token.ensures.within.0 c.in-Token.ensures.within.1));
    }

pub returns-then-ends_looking-clause-are : goal.returns-then-ends_looking-clause-are
returns-then-ends_looking-clause-are c =
    let off = ap ends_looking (sym c.token_kind-kind.ensures) ∙ sym c.ends_looking.ensures ∙ c.if-ends_looking.true in
    rw (c.in_ok-push-in-Token.ensures.items, c.token_kind-kind.ensures)
    (ends_token c.args.text.now c.tokens.from c.tokens.marks.items c.tokens.invariant.gone c.each_is_either.ensures c.in-Token.token c.in-Token.ensures.next off)

pub returns-then-ends_looking-clause-stand : goal.returns-then-ends_looking-clause-stand
returns-then-ends_looking-clause-stand c =
    rw (c.in_ok-push-in-Token.ensures.items, c.token_kind-kind.ensures) (
      _,
      stand_more c.args.text.now 0 c.tokens.marks.items c.tokens.from _ c.tokens.invariant.stand
          (token_within c.args.text.now c.tokens.from c.in-Token.token c.in-Token.ensures.next c.in-Token.ensures.within.0 c.in-Token.ensures.within.1),
    )

pub returns-in-End-clause-are : goal.returns-in-End-clause-are
returns-in-End-clause-are c =
    rw c.in_ok-push-in-End.ensures.items (ends_end c.args.text.now c.tokens.from c.tokens.marks.items c.tokens.invariant.gone c.each_is_either.ensures c.in-End.ensures.next)

pub returns-in-End-clause-stand : goal.returns-in-End-clause-stand
returns-in-End-clause-stand c =
    rw c.in_ok-push-in-End.ensures.items
    (_, stand_more c.args.text.now 0 c.tokens.marks.items c.tokens.from _ c.tokens.invariant.stand (end_within c.args.text.now c.tokens.from c.tokens.invariant.high))

pub returns-in-Bad-clause-are : goal.returns-in-Bad-clause-are
returns-in-Bad-clause-are c =
    rw c.in_ok-push-in-Bad.ensures.items (ends_bad c.args.text.now c.tokens.from c.tokens.marks.items c.tokens.invariant.gone c.each_is_either.ensures c.in-Bad.at c.in-Bad.ensures.next)

pub returns-in-Bad-clause-stand : goal.returns-in-Bad-clause-stand
returns-in-Bad-clause-stand c =
    rw c.in_ok-push-in-Bad.ensures.items
    (_, stand_more c.args.text.now 0 c.tokens.marks.items c.tokens.from _ c.tokens.invariant.stand (bad_within c.args.text.now c.tokens.from c.in-Bad.at c.in-Bad.ensures.next))

pub returns-then-ends_looking-clause-count : goal.returns-then-ends_looking-clause-count
returns-then-ends_looking-clause-count c = omega (arith, grown _ _ _ c.in_ok-push-in-Token.ensures.items, c.tokens.invariant.count, c.tokens.invariant.high)

pub returns-in-End-clause-count : goal.returns-in-End-clause-count
returns-in-End-clause-count c = omega (arith, grown _ _ _ c.in_ok-push-in-End.ensures.items, c.tokens.invariant.count, c.tokens.invariant.high)

pub returns-in-Bad-clause-count : goal.returns-in-Bad-clause-count
returns-in-Bad-clause-count c = omega (arith, grown _ _ _ c.in_ok-push-in-Bad.ensures.items, c.tokens.invariant.count, c.tokens.invariant.high)
