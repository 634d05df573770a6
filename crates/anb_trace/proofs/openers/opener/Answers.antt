use Rattle.std.proofs.Common.{◌<◌, List, ℕ, Option, None, get_or, length, sym, ap, ◌∙◌, arith}
use Rattle.anb_trace.specs.Openers.{is_used}
use Rattle.anb_trace.specs.Trying.{opens_with, use_of}
use Rattle.anb_trace.proofs.Opening.{first_marked}
use Rattle.anb_trace.proofs.openers.opener.Goals as goal

pub returns-then-branch : goal.returns-then-branch
returns-then-branch c =
    let code = c.args.code.now in
    let table = c.args.registers.now in
    let trial = c.args.trial in
    let i = c.loop-mark.mark-index in
    let marks = c.in_ok-marks.ensures in
    let same = c.deref-mark-items.ensures.value in
    let below : i < length table = omega (arith, c.loop-mark-test.true, ap length same, marks.sized) in
    let each = rw c.instrs.ensures.instrs at marks.each i below in
    let mark = sym c.in-Some.is ∙ ap (λ (l : List (Option ℕ)). get_or l i None) same ∙ each in
    first_marked (is_used (use_of trial) code.instrs) (opens_with code table trial) i c.in-Some.register (length table) mark
    (sym c.in_ok-opens_with.ensures ∙ c.if-branch.true) c.loop-mark.invariant below
