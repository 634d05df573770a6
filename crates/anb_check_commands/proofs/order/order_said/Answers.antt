use Rattle.std.proofs.Common.{ℕ, List, length, ap, ◌∙◌}
use Rattle.std.specs.Prelude.{min}
use Rattle.anb_lemmas.proofs.Results.{if_ok_map}
use Rattle.anb_mistakes.specs.Pointing.{pointed}
use Rattle.anb_check_commands.specs.ChoiceLines.{order_mend}
use Rattle.anb_check_commands.proofs.order.order_said.Goals as goal

pub returns : goal.returns
returns c =
    let name = c.args.name.now in
    let x = c.args.text.now in
    if_ok_map c.pointed_at.result _ _
    (λ said is. is ∙ ap (λ (n : ℕ). pointed name x n c.order_line.result.now order_mend) c.place_in.ensures.offset ∙ ap (λ (l : List ℕ). pointed name x (min c.args.at (length x)) l order_mend) c.order_line.ensures)
    c.pointed_at.ensures
