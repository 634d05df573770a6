use Rattle.std.proofs.Common.{◌≡◌, Ok, Err, sym, ap, ◌∙◌}
use Rattle.anb_choice.specs.Order.{bad_at}
use Rattle.anb_choice.specs.Parsing.{order}
use Rattle.anb_choice.proofs.Misplaced.{misplaced_of}
use Rattle.anb_choice.proofs.Ordering.{has_order}
use Rattle.anb_choice.proofs.splitting.told_choice.Goals as goal

pub branched_in-requires-clause-ordered : goal.branched_in-requires-clause-ordered
branched_in-requires-clause-ordered c =
    let text = c.args.text.now in
    let ms = c.in-Ok.marks.items in
    let spans = c.in-Ok-Ok.spans.items in
    let tokens = ap bad_at (sym c.deref.ensures.value) ∙ sym c.bad_at.ensures ∙ c.in_default.is in
    let ok : order c.deref-2.result.now ≡ Ok spans = rw c.in-Ok-Ok.field-0-is at c.in-Ok-Ok.ensures in
    let found = ap order (sym c.deref-2.ensures.value) ∙ ok in
    rw (c.deref-in-Ok-Ok.ensures.value, c.deref-in-Ok-Ok-2.ensures.value) (record { marks = c.in-Ok.ensures.are; tokens = tokens; order = has_order text ms spans c.in-Ok.ensures.are found })

pub returns-in-Ok-Err-clause-refused : goal.returns-in-Ok-Err-clause-refused
returns-in-Ok-Err-clause-refused c = λ some.
    let ms = c.in-Ok.marks.items in
    let tokens = ap bad_at (sym c.deref.ensures.value) ∙ sym c.bad_at.ensures ∙ c.in_default.is in
    let wrong : order c.deref-2.result.now ≡ Err c.in-Ok-Err.at = rw c.in-Ok-Err.field-0-is at c.in-Ok-Err.ensures in
    (ms, c.in-Ok.ensures.are, tokens, misplaced_of c.args.text.now ms c.in-Ok-Err.at c.in-Ok.ensures.are tokens (ap order (sym c.deref-2.ensures.value) ∙ wrong))
