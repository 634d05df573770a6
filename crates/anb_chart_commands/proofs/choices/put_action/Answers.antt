use Rattle.std.proofs.Common.{◌++◌, ap, ◌∙◌, append_assoc}
use Rattle.anb_protocol.specs.Views.{action_value}
use Rattle.anb_chart.specs.Charts.{arrow_line, note_line}
use Rattle.anb_chart_commands.proofs.choices.put_action.Goals as goal

pub returns : goal.returns
returns c =
    let p = c.args.protocol.now in
    let a = action_value c.args.action.now in
    let note = note_line p a c.args.names.now in
    let arrow = arrow_line p c.args.number a in
    c.in_ok-put_arrow.ensures ∙ ap (λ l. l ++ arrow) c.in_ok-put_note.ensures ∙ append_assoc c.args.out.now.items note arrow
