use Rattle.std.proofs.Common.{◌≡◌, length, arith}
use Rattle.anb_transcript.proofs.ReadLines.{read_nothing, read_further, faulty_there, read_whole, arrivals_are_short}
use Rattle.anb_transcript.proofs.reading.read_transcript.Goals as goal

pub loop-line-init : goal.loop-line-init
loop-line-init c = rw c.new-lines.ensures.items (read_nothing c.args.text.now)

pub overflow_cast-result : goal.overflow_cast-result
overflow_cast-result c = omega (arith, c.len.ensures, c.requires, c.loop-line.invariant.size, c.loop-line.lines.ok.0)

pub overflow_add-result : goal.overflow_add-result
overflow_add-result c = omega (arith, c.len.ensures, c.requires, c.loop-line.invariant.size, c.loop-line.lines.ok.0)

pub returns-in-None-clause-reads : goal.returns-in-None-clause-reads
returns-in-None-clause-reads c =
    let len : c.len.result ≡ length c.loop-line.lines.items = omega (arith, c.len.ensures, c.loop-line.lines.ok.0) in
    rw len (faulty_there c.args.text.now c.loop-line.rest.now c.in-Some.after.now c.in-Some.line.now c.loop-line.lines.items c.loop-line.invariant c.in-Some.ensures.some (rw c.in-None.is at c.in_ok-line.ensures.none))

pub loop-line-preserved : goal.loop-line-preserved
loop-line-preserved c =
    rw c.in_ok-push-in-Some-2.ensures.items
    (read_further c.args.text.now c.loop-line.rest.now c.in-Some.after.now c.in-Some.line.now c.loop-line.lines.items c.in-Some-2.line c.loop-line.invariant c.in-Some.ensures.some c.in-Some.ensures.less
    (rw c.in-Some-2.is at c.in_ok-line.ensures.some))

pub returns-clause-reads : goal.returns-clause-reads
returns-clause-reads c = rw c.new.ensures (read_whole c.args.text.now c.loop-line.rest.now c.loop-line.lines.items c.loop-line.invariant c.in_default.ensures.none)

pub returns-clause-few : goal.returns-clause-few
returns-clause-few c = rw c.new.ensures (omega (arith, c.loop-line.invariant.size))

pub returns-clause-arrivals : goal.returns-clause-arrivals
returns-clause-arrivals c = rw c.new.ensures (arrivals_are_short c.loop-line.invariant.before c.loop-line.lines.items c.loop-line.invariant.says)
