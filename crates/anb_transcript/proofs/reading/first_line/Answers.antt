use Rattle.std.proofs.Common.{◌==◌, ◌+◌, length, arith, rules, tests}
use Rattle.std.proofs.lemmas.Iterator.{YieldsList-from_slice}
use Rattle.std.proofs.lemmas.Iterator.Search.{position_from_yields_List}
use Rattle.std.proofs.lemmas.List.{take_rest, drop_all}
use Rattle.anb_transcript.proofs.FirstLine.{ended, found, not_found, whole}
use Rattle.anb_transcript.proofs.reading.first_line.Goals as goal

pub returns-in-Some-clause-some : goal.returns-in-Some-clause-some
returns-in-Some-clause-some c =
    let text = c.args.text.now in
    let p = position_from_yields_List (λ b. b == 10) _ _ c.position.result c.position.ensures.ran (YieldsList-from_slice text cc) (λ x b q k. search (rules, tests)) in
    let at = found text c.position.result p c.in-Some.end c.in-Some.is in
    rw (take_rest text (c.in-Some.end + 1), at.0) (ended text at.1)

pub returns-in-None-clause-some : goal.returns-in-None-clause-some
returns-in-None-clause-some c =
    let text = c.args.text.now in
    let p = position_from_yields_List (λ b. b == 10) _ _ c.position.result c.position.ensures.ran (YieldsList-from_slice text cc) (λ x b q k. search (rules, tests)) in
    rw (take_rest text (length text), drop_all (length text) text (omega arith)) (whole text c.if-is_empty.ensures (not_found text c.position.result p c.in-None.is))
