use Rattle.std.proofs.Common.{arith}
use Rattle.std.proofs.lemmas.List.FromFn.{map-range_with_len_more}
use Rattle.std.proofs.lemmas.Grind.{common_steps}
use Rattle.anb_gen.specs.Drill.{number_name}
use Rattle.anb_gen.proofs.drill.numbers.Goals as goal
use Rattle.anb_gen.proofs.drill.numbers.Goals.{else-loop-i-test, then-loop-i-test+in_ok-number+in_ok-push+else-i-n}

pub loop-i-preserved : goal.loop-i-preserved
loop-i-preserved c = grind (arith, common_steps, map-range_with_len_more number_name 0 c.loop-i.i c.loop-i.i (omega arith))

pub returns : goal.returns
returns c = elim c.loop-i-test.branch [
  | else-loop-i-test w ↦ absurd (omega arith)
  | then-loop-i-test+in_ok-number+in_ok-push+else-i-n w ↦ grind (arith, common_steps, map-range_with_len_more number_name 0 c.loop-i.i c.loop-i.i (omega arith))
]
