use Rattle.std.proofs.Common.{◌≡◌, ◌<◌, ◌==◌, length, take, get_or, arith, rules, tests}
use Rattle.std.proofs.lemmas.Iterator.Consumers.{YieldsList-at, YieldsList-turn, YieldsList-end}
use Rattle.std.proofs.lemmas.Iterator.Splits.{YieldsList-from_slice_split}
use Rattle.std.proofs.lemmas.List.{length_push, take_all}
use Rattle.anb_values.specs.Lines.{lines_of}
use Rattle.anb_value_mistakes.proofs.Lines.{read_more, short_more}
use Rattle.anb_value_mistakes.proofs.reading.read_lines.Goals as goal
use Rattle.anb_value_mistakes.proofs.reading.read_lines.Goals.{In-Some}

-- the line of this turn is the next one of the text
turned : (c : In-Some) → (length c.loop-line.yielded < length (lines_of c.args.text.now)) × (c.in-Some.line.now ≡ get_or (lines_of c.args.text.now) (length c.loop-line.yielded) c.in-Some.line.now)
turned c =
    let turn = YieldsList-turn (YieldsList-at c.into_iter-line-iterator.ensures.into_iter_gives (YieldsList-from_slice_split _ (λ b. b == 10) c.args.text.now c.split-line-items.ensures.rest c.split-line-items.ensures.done c.split-line-items.ensures.closure (λ x b q k. search (rules, tests)))) c.loop-line.yielded _ c.loop-line.yielded_by _ _ c.in-Some.line c.in-Some.is c.next.ensures.steps in
    (omega (arith, turn.0), turn.1)

pub loop-line-preserved : goal.loop-line-preserved
loop-line-preserved c =
    let here = turned (goal.at.loop-line-preserved c).In-Some in record {
      lines = rw (length_push c.loop-line.yielded c.in-Some.line, c.in_ok-push.ensures.items) (read_more (lines_of c.args.text.now) (length c.loop-line.yielded) c.in-Some.line.now c.loop-line.reads.items _ here.0 here.1 c.loop-line.invariant.lines c.in_ok-read_line.ensures.read);
      short = rw c.in_ok-push.ensures.items (short_more c.loop-line.reads.items _ c.loop-line.invariant.short c.in_ok-read_line.ensures.short);
    }

pub returns-clause-lines : goal.returns-clause-lines
returns-clause-lines c =
    let end = YieldsList-end (YieldsList-at c.into_iter-line-iterator.ensures.into_iter_gives (YieldsList-from_slice_split _ (λ b. b == 10) c.args.text.now c.split-line-items.ensures.rest c.split-line-items.ensures.done c.split-line-items.ensures.closure (λ x b q k. search (rules, tests)))) c.loop-line.yielded _ c.loop-line.yielded_by _ _ c.in-None.is c.next.ensures.steps in
    let all : take (length c.loop-line.yielded) (lines_of c.args.text.now) ≡ lines_of c.args.text.now = take_all _ _ (omega (arith, end.1)) in
    rw all at c.loop-line.invariant.lines
