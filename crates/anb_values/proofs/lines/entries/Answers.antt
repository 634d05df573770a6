use Rattle.std.proofs.Common.{◌≡◌, ◌<◌, ◌==◌, length, take, get_or, sym, arith, rules, tests}
use Rattle.std.proofs.lemmas.Iterator.Consumers.{YieldsList-at, YieldsList-turn, YieldsList-end}
use Rattle.std.proofs.lemmas.Iterator.Splits.{YieldsList-from_slice_split}
use Rattle.std.proofs.lemmas.List.{length_push, take_all}
use Rattle.anb_values.specs.Lines.{lines_of}
use Rattle.anb_values.proofs.LineLemmas.{said_none, said_some, next_line, faulty_here}
use Rattle.anb_values.proofs.lines.entries.Goals as goal
use Rattle.anb_values.proofs.lines.entries.Goals.{In-Some}

-- the line of this turn is the next one of the text
turned : (c : In-Some) → (c.loop-line.number < length (lines_of c.args.text.now)) × (c.in-Some.line.now ≡ get_or (lines_of c.args.text.now) c.loop-line.number c.in-Some.line.now)
turned c =
    let turn = YieldsList-turn (YieldsList-at c.into_iter-line-iterator.ensures.into_iter_gives (YieldsList-from_slice_split _ (λ b. b == 10) c.args.text.now c.split-line-items.ensures.rest c.split-line-items.ensures.done c.split-line-items.ensures.closure (λ x b q k. search (rules, tests)))) c.loop-line.yielded _ c.loop-line.yielded_by _ _ c.in-Some.line c.in-Some.is c.next.ensures.steps in
    (omega (arith, turn.0, c.loop-line.invariant.number), rw (sym c.loop-line.invariant.number) at turn.1)

pub loop-line-preserved-in-PassedOver : goal.loop-line-preserved-in-PassedOver
loop-line-preserved-in-PassedOver c =
    let here = turned (goal.at.loop-line-preserved-in-PassedOver c).In-Some in record {
      number = omega (arith, length_push c.loop-line.yielded c.in-Some.line, c.loop-line.invariant.number);
      said = rw (next_line (lines_of c.args.text.now) c.loop-line.number c.in-Some.line.now here.0 here.1) (said_none _ c.loop-line.entries.items c.in-Some.line.now c.loop-line.invariant.said (rw c.in-PassedOver.is at c.in_ok-read_line.ensures));
    }

pub loop-line-preserved : goal.loop-line-preserved
loop-line-preserved c =
    let here = turned (goal.at.loop-line-preserved c).In-Some in record {
      number = omega (arith, length_push c.loop-line.yielded c.in-Some.line, c.loop-line.invariant.number);
      said = rw (next_line (lines_of c.args.text.now) c.loop-line.number c.in-Some.line.now here.0 here.1, c.in_ok-push-in-Entry.ensures.items) (said_some _ c.loop-line.entries.items c.in-Some.line.now c.in-Entry.entry c.loop-line.invariant.said (rw c.in-Entry.is at c.in_ok-read_line.ensures));
    }

pub returns-in-Faulty-clause-refused : goal.returns-in-Faulty-clause-refused
returns-in-Faulty-clause-refused c =
    let here = turned (goal.at.returns-in-Faulty-clause-refused c).In-Some in
    faulty_here (lines_of c.args.text.now) c.loop-line.number c.in-Some.line.now c.loop-line.entries.items here.0 here.1 c.loop-line.invariant.said (rw c.in-Faulty.is at c.in_ok-read_line.ensures)

pub returns-clause-said : goal.returns-clause-said
returns-clause-said c =
    let end = YieldsList-end (YieldsList-at c.into_iter-line-iterator.ensures.into_iter_gives (YieldsList-from_slice_split _ (λ b. b == 10) c.args.text.now c.split-line-items.ensures.rest c.split-line-items.ensures.done c.split-line-items.ensures.closure (λ x b q k. search (rules, tests)))) c.loop-line.yielded _ c.loop-line.yielded_by _ _ c.in-None.is c.next.ensures.steps in
    let all : take c.loop-line.number (lines_of c.args.text.now) ≡ lines_of c.args.text.now = take_all _ _ (omega (arith, end.1, c.loop-line.invariant.number)) in
    rw all at c.loop-line.invariant.said
