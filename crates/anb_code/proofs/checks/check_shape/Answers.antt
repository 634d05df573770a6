use Rattle.std.proofs.Common.{◌≡◌, ap, ◌∙◌}
use Rattle.anb_format.specs.Formats.{FormatValue}
use Rattle.anb_code.proofs.Shapes.{checked_fine, checked_refused}
use Rattle.anb_code.proofs.checks.check_shape.Goals as goal

pub returns-clause-fine : goal.returns-clause-fine
returns-clause-fine c =
    let same : c.deref.result.now ≡ c.args.format.now.pieces = c.deref.ensures.value ∙ ap (λ (format : FormatValue). format.pieces) c.format.view_is in
    rw (← same) (checked_fine c.deref.result.now c.check.result c.check.ensures.sound)

pub returns-clause-refused : goal.returns-clause-refused
returns-clause-refused c =
    let same : c.deref.result.now ≡ c.args.format.now.pieces = c.deref.ensures.value ∙ ap (λ (format : FormatValue). format.pieces) c.format.view_is in
    rw (← same) (checked_refused c.deref.result.now c.check.result c.check.ensures.no_head c.check.ensures.rest_not_last)
