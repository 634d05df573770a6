use Rattle.std.proofs.Common.{◌-◌, ◌+◌, ◌++◌, ap, ◌∙◌}
use Rattle.std.specs.Prelude.{replicate}
use Rattle.anb_mistakes.proofs.Lines.{one_space}
use Rattle.anb_mistakes.proofs.pointing.put_spaces.Goals as goal

pub loop-preserved : goal.loop-preserved
loop-preserved c = ap (λ l. l ++ replicate (c.args.count - (c.loop.counter + 1)) 32) c.in_ok-push.ensures.items ∙ one_space c.args.count c.loop.counter c.loop.out.items c.loop-test.true ∙ c.loop.invariant
