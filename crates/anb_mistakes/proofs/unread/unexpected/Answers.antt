use Rattle.std.proofs.Common.{◌≡◌, ◌+◌, ◌-◌, ◌++◌, take, drop, sym, ap, ◌∙◌, arith, append_assoc}
use Rattle.std.specs.Prelude.{codes}
use Rattle.anb_read.specs.declared.refusal.ReadNo.TheVariants.{Grammar}
use Rattle.anb_read.proofs.Standing.{refusal_within}
use Rattle.anb_mistakes.specs.Unread.{unexpected}
use Rattle.anb_mistakes.proofs.Unreadable.{token_there, none_there}
use Rattle.anb_mistakes.proofs.unread.unexpected.Goals as goal

pub next_token-requires-clause-from : goal.next_token-requires-clause-from
next_token-requires-clause-from c = refusal_within c.args.text.now (Grammar c.args.at) c.requires.refused

pub returns-in_ok-put-in-Token-2 : goal.returns-in_ok-put-in-Token-2
returns-in_ok-put-in-Token-2 c =
    let x = c.args.text.now in
    let at = c.args.at in
    let t = c.in-Token.token in
    let k = token_there x at c.requires.refused t c.in-Token.ensures.next in
    let shown : take (t.at + t.len - t.at) (drop t.at x) ≡ take t.len (drop at x) = ap (λ n. take n (drop t.at x)) (omega arith) ∙ ap (λ n. take t.len (drop n x)) k.0 in
    c.in_ok-put-in-Token-2.ensures ∙ ap (λ l. l ++ codes "`") (c.in_ok-put-in-Token.ensures ∙ ap (λ l. l ++ take (t.at + t.len - t.at) (drop t.at x)) c.in_ok-out-in-Token.ensures.items)
    ∙ append_assoc (codes "unexpected `") (take (t.at + t.len - t.at) (drop t.at x)) (codes "`")
    ∙ ap (λ l. codes "unexpected `" ++ (l ++ codes "`")) shown
    ∙ sym (ap (λ o. unexpected o (drop at x)) k.1.1)

pub returns-in_ok-from_slice-in_default : goal.returns-in_ok-from_slice-in_default
returns-in_ok-from_slice-in_default c =
    let x = c.args.text.now in
    let at = c.args.at in
    let none = none_there x at c.requires.refused c.next_token.result c.next_token.ensures.next c.in_default.not-Token in
    c.in_ok-from_slice-in_default.ensures.items ∙ sym (ap (λ o. unexpected o (drop at x)) none)
