use Rattle.std.proofs.Common.{◌∙◌, ◌≤◌, ◌<◌, ◌+◌, length, refl, sym, ap, arith}
use Rattle.std.proofs.lemmas.List.{drop_all}
use Rattle.anb_base.specs.declared.TheConstants.{ARRIVAL}
use Rattle.anb_judge.specs.Verdicts.{line_bytes}
use Rattle.anb_judge_commands.specs.JudgeCommand.{long_line}
use Rattle.anb_judge_commands.proofs.Reading.{at_long, long_from, past_short}
use Rattle.anb_judge_commands.proofs.files.long_line.Goals as goal

pub loop-i-init : goal.loop-i-init
loop-i-init c = refl

pub returns-then-byte_count : goal.returns-then-byte_count
returns-then-byte_count c =
    let long : ARRIVAL < length (line_bytes c.index-lines-i.result) = omega (arith, c.if-byte_count.true, c.byte_count.ensures.length, ap length c.bytes_of.ensures) in
    sym (at_long c.lines-lines.result.now c.loop-i.i c.index-lines-i.result c.loop-i-test.true c.index-lines-i.is long) ∙ c.loop-i.invariant ∙ ap long_line c.lines-lines.ensures

pub loop-i-preserved : goal.loop-i-preserved
loop-i-preserved c =
    let short : length (line_bytes c.index-lines-i.result) ≤ ARRIVAL = omega (arith, c.if-byte_count.false, c.byte_count.ensures.length, ap length c.bytes_of.ensures) in
    sym (past_short c.lines-lines.result.now c.loop-i.i c.index-lines-i.result c.loop-i-test.true c.index-lines-i.is short) ∙ c.loop-i.invariant

pub returns : goal.returns
returns c =
    sym (ap (long_from (c.loop-i.i + 1)) (drop_all c.loop-i.i c.lines-lines.result.now c.loop-i-test.false)) ∙ c.loop-i.invariant ∙ ap long_line c.lines-lines.ensures
