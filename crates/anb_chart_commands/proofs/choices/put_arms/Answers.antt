use Rattle.std.proofs.Common.{◌≡◌, ◌+◌, List, ℕ, ◌++◌, length, drop, ap, sym, ◌∙◌, arith}
use Rattle.std.proofs.lemmas.List.{drop_all}
use Rattle.anb_protocol.specs.Protocols.{ProtocolValue}
use Rattle.anb_chart_commands.specs.ChoiceCharts.{arm_line, arms_lines, lines_between}
use Rattle.anb_chart_commands.proofs.ChartLines.{next_arm}
use Rattle.anb_chart_commands.proofs.choices.put_arms.Goals as goal

pub loop-i-preserved : goal.loop-i-preserved
loop-i-preserved c =
    let arms = c.args.arms.now in
    let i = c.loop-i.i in
    let p : ProtocolValue = c.index-arms-i.result in
    let lines = lines_between p c.args.stem (length p.actions) in
    ap (λ l. l ++ arms_lines c.args.chooser.now c.args.stem ((i + 1) + 1) (drop (i + 1) arms)) (c.in_ok-put_arm.ensures ∙ ap (λ l. l ++ lines) c.in_ok-put_arm_line.ensures)
    ∙ next_arm c.args.chooser.now c.args.stem arms i p c.loop-i-test.true c.index-arms-i.is c.loop-i.out.items
    ∙ c.loop-i.invariant

pub returns : goal.returns
returns c =
    let arms = c.args.arms.now in
    let i = c.loop-i.i in
    c.in_ok-extend_from_slice.ensures.items
    ∙ ap (λ (ps : List ProtocolValue). c.loop-i.out.items ++ arms_lines c.args.chooser.now c.args.stem (i + 1) ps) (sym (drop_all i arms (omega arith)))
    ∙ c.loop-i.invariant
