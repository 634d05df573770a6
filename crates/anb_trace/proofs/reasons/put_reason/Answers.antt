use Rattle.std.specs.Prelude.{codes}
use Rattle.anb_lemmas.proofs.Results.{on_ok_map}
use Rattle.anb_trace.specs.Openers.{wrap_key}
use Rattle.anb_trace.specs.Tracing.{subject_in}
use Rattle.anb_trace.specs.Words.{bytes_at, term_at, unopened, unwrapped_by}
use Rattle.anb_trace.proofs.Passed.{four_and}
use Rattle.anb_trace.proofs.reasons.put_reason.Goals as goal

pub returns-in_ok-put_unwrapped-in-Unwrap : goal.returns-in_ok-put_unwrapped-in-Unwrap
returns-in_ok-put_unwrapped-in-Unwrap c =
    let s = subject_in c.args.subject.now in
    let table = c.args.registers.now in
    let key = c.in-Unwrap.key in
    let context = c.in-Unwrap.context in
    let of = c.in-Unwrap.of in
    let middle = c.put_unwrapped.new.out.items in
    rw c.in-Unwrap.is (on_ok_map c.put_why_wrapped.result
    (λ h. four_and c.args.out.now.items middle c.put_why_wrapped.new.out.items (codes "can't unwrap under ") (term_at s key) (codes " with ") (term_at s context)
    (unopened (bytes_at table of) (codes "wrapping") (unwrapped_by s table key context of (wrap_key s.code table context of))) c.in_ok-put_unwrapped-in-Unwrap.ensures h)
    c.put_why_wrapped.ensures)
