use Rattle.std.proofs.Common.{◌≡◌, ◌∙◌}
use Rattle.std.specs.Prelude.{decimal}
use Rattle.anb_chart_commands.specs.ChoiceCharts.{arm_word}
use Rattle.anb_chart_commands.proofs.ChartLines.{arm_put}
use Rattle.anb_chart_commands.proofs.choices.put_arm_line.Goals as goal

pub returns : goal.returns
returns c =
    let chooser : c.as_bytes.result.now ≡ c.args.chooser.now = c.as_bytes.ensures.value ∙ c.as_str.ensures in
    let digits : c.as_bytes-2.result.now ≡ decimal c.args.number = c.as_bytes-2.ensures.value ∙ c.format.ensures.text in
    rw (
      c.in_ok-push.ensures.items,
      c.in_ok-extend_from_slice-5.ensures.items,
      digits,
      c.in_ok-extend_from_slice-4.ensures.items,
      c.in_ok-extend_from_slice-3.ensures.items,
      chooser,
      c.in_ok-extend_from_slice-2.ensures.items,
      c.arm_word.ensures,
      c.in_ok-extend_from_slice.ensures.items,
    ) (arm_put c.args.out.now.items (arm_word c.args.number) c.args.chooser.now (decimal c.args.number))
