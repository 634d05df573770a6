use Rattle.std.proofs.Common.{◌≡◌, ◌+◌, ◌-◌, take, drop, sym, ap, ◌∙◌, arith}
use Rattle.std.specs.Prelude.{bytes_eq}
use Rattle.anb_syntax.specs.Words.{choice_word}
use Rattle.anb_read.specs.declared.refusal.ReadNo.TheVariants.{Grammar}
use Rattle.anb_read.proofs.Standing.{refusal_within}
use Rattle.anb_mistakes.proofs.Unreadable.{token_there, none_there}
use Rattle.anb_check_commands.specs.ChoiceLines.{is_choice}
use Rattle.anb_check_commands.proofs.order.is_choice_at.Goals as goal

pub next_token-requires-clause-from : goal.next_token-requires-clause-from
next_token-requires-clause-from c = refusal_within c.args.text.now (Grammar c.args.at) c.requires.refused

pub returns-in-Token : goal.returns-in-Token
returns-in-Token c =
    let x = c.args.text.now in
    let at = c.args.at in
    let t = c.in-Token.token in
    let k = token_there x at c.requires.refused t c.in-Token.ensures.next in
    let shown : take (t.at + t.len - t.at) (drop t.at x) ≡ take t.len (drop at x) = ap (λ n. take n (drop t.at x)) (omega arith) ∙ ap (λ n. take t.len (drop n x)) k.0 in
    c.is_same.ensures ∙ ap (bytes_eq choice_word) shown ∙ sym (ap (λ o. is_choice o (drop at x)) k.1.1)

pub returns-in_default : goal.returns-in_default
returns-in_default c =
    let x = c.args.text.now in
    let at = c.args.at in
    let none = none_there x at c.requires.refused c.next_token.result c.next_token.ensures.next c.in_default.not-Token in
    sym (ap (λ o. is_choice o (drop at x)) none)
