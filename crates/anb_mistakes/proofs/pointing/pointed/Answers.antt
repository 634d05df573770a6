use Rattle.std.proofs.Common.{◌++◌, ap, ◌∙◌, append_assoc}
use Rattle.std.specs.Prelude.{codes}
use Rattle.anb_mistakes.specs.Pointing.{located}
use Rattle.anb_mistakes.proofs.pointing.pointed.Goals as goal

pub returns : goal.returns
returns c =
    let top = located c.args.name.now c.args.text.now c.args.at c.args.message.now in
    c.in_ok-put-2.ensures ∙ ap (λ l. l ++ codes "\n") (c.in_ok-put.ensures ∙ ap (λ l. l ++ c.args.mend.now) c.in_ok-out.ensures) ∙ append_assoc top c.args.mend.now (codes "\n")
