use Rattle.std.proofs.Common.{◌≡◌, ◌++◌, ◌∙◌, ap, sym}
use Rattle.anb_format.specs.Literals.{canonical_literal}
use Rattle.anb_text.proofs.Choices.{of_some_and}
use Rattle.anb_text.proofs.reading.read_quoted.Goals as goal

pub returns-clause-none : goal.returns-clause-none
returns-clause-none c = λ bytes rest are e.
    let read = of_some_and _ c.in_ok-literal.field-0 c.in-Some.literal c.in-Some.is (c.in_ok-literal.ensures.canonical bytes rest are e) in
    let written : canonical_literal bytes ≡ c.as_slice-2.result.now =
    ap canonical_literal (sym read.0 ∙ sym c.as_slice.ensures) ∙ sym c.in_ok-written.ensures.text ∙ sym c.as_slice-2.ensures in
    c.in-None.ensures rest (e ∙ ap (λ x. x ++ rest) written)
