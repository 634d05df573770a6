use Rattle.std.proofs.Common.{take, ap, ◌∙◌}
use Rattle.anb_report.proofs.Items.{turn_taken}
use Rattle.anb_report.proofs.notes.turn.Goals as goal

pub returns : goal.returns
returns c =
    let instrs = c.args.instrs.now in
    c.split_at.ensures.front ∙ ap (λ n. take n instrs) c.to_message.ensures.count ∙ turn_taken instrs
