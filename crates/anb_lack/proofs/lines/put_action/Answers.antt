use Rattle.std.proofs.Common.{◌++◌, ap, ◌∙◌, append_assoc}
use Rattle.std.specs.Prelude.{codes, decimal}
use Rattle.anb_lack.proofs.lines.put_action.Goals as goal

pub returns : goal.returns
returns c =
    c.in_ok-put_number.ensures ∙ ap (λ l. l ++ decimal c.args.action) c.in_ok-put.ensures ∙ append_assoc c.args.out.now.items (codes "from action ") (decimal c.args.action)
