use Rattle.std.proofs.Common.{ap, length, ◌∙◌}
use Rattle.anb_command.proofs.Given.{fit_count}
use Rattle.anb_c.proofs.opening.open.Goals as goal

pub start-requires-clause-count : goal.start-requires-clause-count
start-requires-clause-count c =
    ap length c.as_slice.ensures ∙ fit_count c.args.text.now c.deref.result.now c.in-Ok-values.fitted c.in-Ok-values.ensures.fits ∙ ap length (c.deref.ensures.value ∙ c.in-Ok-texts_of_takes.ensures.texts)
