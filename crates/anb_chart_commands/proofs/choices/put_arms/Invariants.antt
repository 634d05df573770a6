use Rattle.std.proofs.Common.{◌≡◌, ◌+◌, ◌++◌, drop}
use Rattle.anb_chart_commands.specs.ChoiceCharts.{arms_lines}
use Rattle.anb_chart_commands.proofs.choices.put_arms.Given as goal

abbrev pub invariant-loop-i : goal.invariant-loop-i
invariant-loop-i l =
    l.out.items ++ arms_lines l.chooser l.stem (l.i + 1) (drop l.i l.arms)
    ≡ l.fn.out.items ++ arms_lines l.chooser l.stem 1 l.arms
