use Rattle.std.proofs.Common.{◌==◌, ◌+◌, ℕ, ap, take, rules, tests}
use Rattle.std.proofs.lemmas.Iterator.{YieldsList-from_slice}
use Rattle.std.proofs.lemmas.Iterator.Search.{position_from_yields_List}
use Rattle.std.proofs.lemmas.List.{take_rest}
use Rattle.anb_values.proofs.LineLemmas.{no_equals, at_equals}
use Rattle.anb_values.proofs.lines.sides.Goals as goal

pub returns-in_err-equals-clause-none : goal.returns-in_err-equals-clause-none
returns-in_err-equals-clause-none c =
    let p = position_from_yields_List (λ b. b == 61) _ _ c.position.result c.position.ensures.ran (YieldsList-from_slice c.args.content.now cc) (λ x b q k. search (rules, tests)) in
    let none = no_equals c.args.content.now c.position.result p c.in_err-equals.was in
    search (rules, none)

pub returns-clause-some : goal.returns-clause-some
returns-clause-some c =
    let p = position_from_yields_List (λ b. b == 61) _ _ c.position.result c.position.ensures.ran (YieldsList-from_slice c.args.content.now cc) (λ x b q k. search (rules, tests)) in
    let n = at_equals c.args.content.now c.position.result c.in_ok-equals.equals p c.in_ok-equals.was in
    (ap (λ (i : ℕ). take i c.args.content.now) n, rw (take_rest c.args.content.now (c.in_ok-equals.equals + 1), n) at c.after_spaces.ensures)
