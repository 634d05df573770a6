use Rattle.std.proofs.Common.{◌≡◌, rules, tests}
use Rattle.std.proofs.lemmas.Result.{IfOk-weaker}
use Rattle.anb_values.specs.Lines.{seed_label}
use Rattle.anb_values.proofs.LineLemmas.{no_given}
use Rattle.anb_values.proofs.lines.read_value.Goals as goal

pub returns-else-eq-clause-none : goal.returns-else-eq-clause-none
returns-else-eq-clause-none c =
    let ne : c.args.label.now ≡ seed_label → ⊥ = search (rules, tests) in
    IfOk-weaker c.read_bytes.result _ _ (λ r h. no_given c.args.label.now c.args.text.now r ne h) c.read_bytes.ensures.none
