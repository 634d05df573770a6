use Rattle.std.proofs.Common.{◌∙◌}
use Rattle.anb_format.proofs.Hexadecimals.{no_semicolon}
use Rattle.anb_format.proofs.ReadingLemmas.{hex_regrouped}
use Rattle.anb_format.proofs.fields.hex_at.Goals as goal

pub returns-in_default-clause-again : goal.returns-in_default-clause-again
returns-in_default-clause-again c = λ b rest bytes e. c.in_default.ensures.again _ _ (no_semicolon b bytes) (e ∙ hex_regrouped b rest)

pub returns-in_default-2-clause-again : goal.returns-in_default-2-clause-again
returns-in_default-2-clause-again c = λ b rest bytes e.
    let parts = c.in-Some.ensures.again _ _ (no_semicolon b bytes) (e ∙ hex_regrouped b rest) in
    rw c.in_default-2.is at (c.in_ok-argument.ensures.again b bytes parts.0)

pub returns-clause-again : goal.returns-clause-again
returns-clause-again c = λ b rest bytes e.
    let parts = c.in-Some.ensures.again _ _ (no_semicolon b bytes) (e ∙ hex_regrouped b rest) in
    (rw c.in-Some-2.is at (c.in_ok-argument.ensures.again b bytes parts.0), parts.1)
