use Rattle.std.proofs.Common.{◌≡◌, ◌∙◌, not, filter, ap, sym}
use Rattle.anb_values.specs.Lines.{is_space}
use Rattle.anb_values.proofs.LineLemmas.{same_given}
use Rattle.anb_values.proofs.lines.read_entry.Goals as goal

pub returns-in-None-clause-none : goal.returns-in-None-clause-none
returns-in-None-clause-none c entry g =
    let found = rw c.in-Some-2.is at c.in_ok-label.ensures.some in
    let label : entry.label ≡ c.as_str.result.now = g.0 ∙ ap (filter (λ b. not (is_space b))) (sym c.in-Some.ensures.some.0) ∙ sym found.0 ∙ sym c.as_str.ensures in
    let none = rw c.in-None.is at c.in_ok-value.ensures.none in
    none entry.value (same_given _ _ _ _ entry.value label (sym c.in-Some.ensures.some.1) g.1)
