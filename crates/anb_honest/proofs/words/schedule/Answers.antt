use Rattle.std.proofs.Common.{◌≡◌, ◌<◌, ◌∙◌, length, map, take, get_or, sym, ap, arith, rules, tests}
use Rattle.std.specs.Prelude.{filter, Result, Err}
use Rattle.anb_honest.specs.declared.words.ScheduleNo.TheVariants.{BadTurn}
use Rattle.std.specs.List.{slice_split}
use Rattle.std.proofs.lemmas.Iterator.Consumers.{YieldsList-at, YieldsList-turn, YieldsList-end}
use Rattle.std.proofs.lemmas.Iterator.Splits.{YieldsList-from_slice_split}
use Rattle.std.proofs.lemmas.List.{length_push, take_all}
use Rattle.anb_protocol.specs.Protocols.{role_named}
use Rattle.anb_honest.specs.Words.{is_blank, is_word}
use Rattle.anb_honest.proofs.Naming.{named_next, few_named, named_roles, refused_at}
use Rattle.anb_honest.proofs.words.schedule.Goals as goal
use Rattle.anb_honest.proofs.words.schedule.Goals.{In-Some}

err_same : {T E : Type 0} (x y : E) → ◌≡◌ {A = Result T E} (Err x) (Err y) → x ≡ y
err_same x y e = cc

-- the part of this turn is the next one of the text
turned : (c : In-Some) → (length c.loop-word.yielded < length (slice_split is_blank c.args.text.now)) × (c.in-Some.word.now ≡ get_or (slice_split is_blank c.args.text.now) (length c.loop-word.yielded) c.in-Some.word.now)
turned c =
    YieldsList-turn (YieldsList-at c.into_iter-word-iterator.ensures.into_iter_gives (YieldsList-from_slice_split _ is_blank c.args.text.now c.split-word-items.ensures.rest c.split-word-items.ensures.done c.split-word-items.ensures.closure (λ x b q k. search (rules, tests)))) c.loop-word.yielded _ c.loop-word.yielded_by _ _ c.in-Some.word c.in-Some.is c.next.ensures.steps

pub put_turn-requires : goal.put_turn-requires
put_turn-requires c =
    let few = few_named c.args.p.now c.args.text.now c.loop-word.turns.items (length c.loop-word.yielded) c.requires c.loop-word.invariant in omega (arith, few)

pub loop-word-preserved : goal.loop-word-preserved
loop-word-preserved c =
    let here = turned (goal.at.loop-word-preserved c).In-Some in
    let parts = slice_split is_blank c.args.text.now in
    let n = length_push c.loop-word.yielded c.in-Some.word in
    let on = named_next c.args.p.now parts (length c.loop-word.yielded) c.in-Some.word.now c.loop-word.turns.items c.put_turn.new.turns.items here.0 here.1 c.loop-word.invariant c.in_default.ensures.turns in
    on ∙ ap (λ k. map (role_named c.args.p.now) (filter is_word (take k parts))) (sym n)

pub returns-in-Err-clause-refused : goal.returns-in-Err-clause-refused
returns-in-Err-clause-refused c = λ n e.
    let here = turned (goal.at.returns-in-Err-clause-refused c).In-Some in
    refused_at c.args.p.now c.args.text.now c.loop-word.turns.items (length c.loop-word.yielded) c.in-Some.word.now n here.0 here.1 c.loop-word.invariant
    (let h : c.in-Err.no ≡ BadTurn n = err_same c.in-Err.no (BadTurn n) e in c.in-Err.ensures.refused n (ap (λ x. Err x) h))

pub returns-clause-turns : goal.returns-clause-turns
returns-clause-turns c =
    let parts = slice_split is_blank c.args.text.now in
    let end =
    YieldsList-end (YieldsList-at c.into_iter-word-iterator.ensures.into_iter_gives (YieldsList-from_slice_split _ is_blank c.args.text.now c.split-word-items.ensures.rest c.split-word-items.ensures.done c.split-word-items.ensures.closure (λ x b q k. search (rules, tests)))) c.loop-word.yielded _ c.loop-word.yielded_by _ _ c.in-None.is c.next.ensures.steps in
    c.loop-word.invariant ∙ ap (λ l. map (role_named c.args.p.now) (filter is_word l)) (take_all (length c.loop-word.yielded) parts (omega (arith, end.1)))

pub returns-clause-roles : goal.returns-clause-roles
returns-clause-roles c = named_roles c.args.p.now c.loop-word.turns.items (filter is_word (take (length c.loop-word.yielded) (slice_split is_blank c.args.text.now))) c.loop-word.invariant

pub returns-clause-few : goal.returns-clause-few
returns-clause-few c = few_named c.args.p.now c.args.text.now c.loop-word.turns.items (length c.loop-word.yielded) c.requires c.loop-word.invariant
