use Rattle.std.proofs.lemmas.Result.{IfOk-weaker}
use Rattle.anb_values.proofs.LineLemmas.{no_bytes}
use Rattle.anb_values.proofs.lines.read_bytes.Goals as goal

pub returns-in-None-clause-none : goal.returns-in-None-clause-none
returns-in-None-clause-none c = IfOk-weaker c.literal.result _ _ (λ r h. no_bytes c.args.text.now r c.in-None.ensures h) c.literal.ensures.none
