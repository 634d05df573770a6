use Rattle.std.proofs.Common.{List, ℕ, ◌++◌, ap, ◌∙◌, append_assoc}
use Rattle.std.specs.List.{flat_map}
use Rattle.anb_chart.specs.Charts.{participant_line}
use Rattle.anb_chart_commands.specs.ChoiceCharts.{lines_between}
use Rattle.anb_chart_commands.proofs.choices.put_stem_of.Goals as goal

pub returns : goal.returns
returns c =
    let p = c.args.arm.now in
    let old = c.args.out.now.items in
    let lines = lines_between p 0 c.args.stem in
    c.in_ok-put_lines.ensures
    ∙ ap (λ l. l ++ lines) (c.in_ok-put_participants.ensures ∙ ap (λ (roles : List (List ℕ)). old ++ flat_map participant_line roles) c.roles.ensures)
    ∙ append_assoc old (flat_map participant_line p.roles) lines
